use Rattle.std.proofs.Common.{[], ◌∷◌, ◌++◌, length, subst}
use Rattle.policy_model.specs.History.{tick, ask}
use Rattle.assess.specs.Ask.{ask_of}
use Rattle.desk_ticket.specs.Ticket.{ticket_of}
use Rattle.desk_state.specs.Stands.{plain, Stands}
use Rattle.desk_state.specs.Begun.{IsBegun, BeginsAfter}
use Rattle.assess_command.specs.Assessments.{at_moment}
use Rattle.assess_command.proofs.Finishes.{known_answered, known_history, ticket_says, ticket_asked, when_err}
use Rattle.assess_command.proofs.line.answer.Goals as goal

pub returns-in-Known-clause-says : goal.returns-in-Known-clause-says
returns-in-Known-clause-says c = λ o h s.
    let a = ask_of c.args.ask.now in
    let ticked : Stands c.tick.new.self o (at_moment h c.args.now) = subst (λ m. Stands c.tick.new.self o (h ++ tick m ∷ [])) c.moment_at.ensures (c.tick.ensures.stands o h s) in
    known_answered (plain c.tick.new.self) o h a c.args.now c.in-Known.verdict c.said.result _
    (subst (IsBegun (plain c.tick.new.self) a) c.in-Known.is c.in_ok-verdict.ensures.begun)
    (subst (BeginsAfter o (at_moment h c.args.now) a) c.in-Known.is (c.in_ok-verdict.ensures.after o (at_moment h c.args.now) ticked))
    c.said.ensures.how c.said.ensures.text

pub returns-in-Known-clause-stands : goal.returns-in-Known-clause-stands
returns-in-Known-clause-stands c = λ o h s.
    let a = ask_of c.args.ask.now in
    let h1 = at_moment h c.args.now in
    let ticked : Stands c.tick.new.self o h1 = subst (λ m. Stands c.tick.new.self o (h ++ tick m ∷ [])) c.moment_at.ensures (c.tick.ensures.stands o h s) in
    subst (Stands c.tick.new.self o)
    (known_history (plain c.tick.new.self) o h1 a c.in-Known.verdict (subst (IsBegun (plain c.tick.new.self) a) c.in-Known.is c.in_ok-verdict.ensures.begun)
    (subst (BeginsAfter o h1 a) c.in-Known.is (c.in_ok-verdict.ensures.after o h1 ticked)))
    (c.begin.ensures.stands o h1 ticked)

pub returns-in-Pending-clause-says : goal.returns-in-Pending-clause-says
returns-in-Pending-clause-says c = λ o h s.
    let a = ask_of c.args.ask.now in
    let h1 = at_moment h c.args.now in
    let ticked : Stands c.tick.new.self o h1 = subst (λ m. Stands c.tick.new.self o (h ++ tick m ∷ [])) c.moment_at.ensures (c.tick.ensures.stands o h s) in
    let of = subst (BeginsAfter o h1 a) c.in-Pending.is (c.in_ok-verdict.ensures.after o h1 ticked) in
    ticket_says o h a c.args.now (ticket_of c.in-Pending.ticket) c.finish.result _ of (c.finish.ensures.finished o (h1 ++ ask a ∷ []) (length h1) (c.begin.ensures.stands o h1 ticked) of)

pub returns-in-Pending-clause-stands : goal.returns-in-Pending-clause-stands
returns-in-Pending-clause-stands c = λ o h s.
    let a = ask_of c.args.ask.now in
    let h1 = at_moment h c.args.now in
    let ticked : Stands c.tick.new.self o h1 = subst (λ m. Stands c.tick.new.self o (h ++ tick m ∷ [])) c.moment_at.ensures (c.tick.ensures.stands o h s) in
    let of = subst (BeginsAfter o h1 a) c.in-Pending.is (c.in_ok-verdict.ensures.after o h1 ticked) in
    subst (Stands c.finish.new.desk o) (ticket_asked o h1 a (ticket_of c.in-Pending.ticket) of) (c.finish.ensures.stands o (h1 ++ ask a ∷ []) (length h1) (c.begin.ensures.stands o h1 ticked) of)

pub returns-in_err-verdict-clause-wanting : goal.returns-in_err-verdict-clause-wanting
returns-in_err-verdict-clause-wanting c = λ o h s. when_err c.from_residual.result (Stands c.tick.new.self o (at_moment h c.args.now)) (subst (λ m. Stands c.tick.new.self o (h ++ tick m ∷ [])) c.moment_at.ensures (c.tick.ensures.stands o h s))
