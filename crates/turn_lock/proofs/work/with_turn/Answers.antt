use Rattle.std.proofs.Common.{rules, sym, subst, [], ◌∷◌, ◌++◌}
use Rattle.turn_lock.specs.Views.{turn_of}
use Rattle.turn_lock.specs.Seats.{known}
use Rattle.turn_lock.proofs.AfterACall.{may_end}
use Rattle.turn_lock.proofs.work.with_turn.Goals as goal

pub end_work-requires-clause-stands : goal.end_work-requires-clause-stands
end_work-requires-clause-stands g c = let m = c.in_ok-held.held.inner.me.0 in let h = c.in_ok-held.ensures.begun in
    may_end g.T.Logged.stands (known c.args.seat.now) m c.in_ok-held.held.value c.work-answer.new.value (g.W.Work.events c.of-about.result.value c.work-answer.result) h
    (λ o had q. subst (λ z. g.T.Logged.stands c.work-answer.new.value o (m.seen ++ turn_of m (g.W.Work.events z c.work-answer.result) ∷ [])) (sym c.of-about.ensures)
    (c.work-answer.ensures.stands o m.seen m.number (c.requires.needs m c.in_ok-held.held.value o h had) (subst (λ z. g.T.Logged.stands z o m.seen) (sym c.value.ensures.same) q)))

pub returns-clause-acted : goal.returns-clause-acted
returns-clause-acted g c = let m = c.in_ok-held.held.inner.me.0 in let h = c.in_ok-held.ensures.begun in
    let turned = c.end_work.ensures.turned (known c.args.seat.now) c.in_ok-held.held.value c.requires.ready.2 h in record {
      origin = h.1;
      past = m.seen;
      had = h.2;
      turned = search rules;
      said = c.work-answer.ensures.says h.1 m.seen m.number (c.requires.needs m c.in_ok-held.held.value h.1 h h.2) (subst (λ z. g.T.Logged.stands z h.1 m.seen) (sym c.value.ensures.same) h.6);
    }
