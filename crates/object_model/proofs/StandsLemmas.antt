-- Each call leaves a desk standing.
use Rattle.std.proofs.Common.{subst, take, ◌≡◌, ℕ, ◌+◌, ◌-◌, List, [], ◌∷◌, ◌++◌, length, refl, sym, ap, ◌∙◌, arith, Some}
use Rattle.std.specs.Prelude.{Bool, not, ◌||◌, max, nat_le, ◌≢◌}
use Rattle.std.specs.List.{filter, list_any, find}
use Rattle.std.proofs.lemmas.List.Elements.{All-push}
use Rattle.policy_model.specs.Rules.{Rank, Kind, execute, install, document, is_below}
use Rattle.policy_model.specs.Edits.{does}
use Rattle.policy_model.specs.Outcomes.{Outcome, verdict_by}
use Rattle.policy_model.specs.Tables.{Tables, IsAccepted}
use Rattle.policy_model.specs.History.{edit_failed, edit_starved, now_step, tables_step, now_of, Event, tick, ask, offer, edit, look, Entry, Opening, Counts, tables_of}
use Rattle.policy_model.proofs.OneMoreEvent.{tables_of-more, now_of-more}
use Rattle.object_model.specs.Objects.{Offered, is_unexpired, is_for, outlasts, ends, inhibits, by_rules, with_offer}
use Rattle.object_model.specs.Rings.{ring_of, moved_by}
use Rattle.object_model.specs.Plain.{Plain, ring_in, rings_of, rings_with}
use Rattle.object_model.proofs.RingSteps.{rings_of-more, ring_kind}
use Rattle.object_model.specs.Past.{touched_step, count_of, mark_of, counts_of}
use Rattle.object_model.specs.Kept.{objects_step, decision_of, offer_at, objects_of}
use Rattle.object_model.specs.declared.limits.TheConstants.{MOST_ENTRIES, LATE_EDITS}
use Rattle.object_model.specs.Tickets.{Ticket, ticket_ask, IsTicketOf, judged, DecideAlike}
use Rattle.object_model.specs.Stands.{Stands, counts_with, offered}
use Rattle.object_model.specs.StandsLaws.{OpeningStands, KnownAnswers, BeginGives, TickStands, QuietStands, FailedStands, StarvedStands, EditStands, FinishStands}
use Rattle.object_model.specs.Fresh.{MayCome}
use Rattle.object_model.proofs.Sound.{found_answers}
use Rattle.object_model.proofs.LegalHistories.{legal_start, legal_more, none_ahead, get_last, all_taken}
use Rattle.object_model.proofs.MoreLaws.{objects_of-more, mark_of-more}
use Rattle.object_model.proofs.TicketLaws.{ticket_judges, ticket_decides}
use Rattle.object_model.proofs.PurgeLaws.{same_three, edit_purges}

pub counts_of-more : (o : Opening) (h : List Event) (e : Event) → counts_of o (h ++ e ∷ []) ≡ counts_with (touched_step e (tables_of o h)) (counts_of o h)
counts_of-more o h e = same_three _ _ _ _ _ _ (mark_of-more o h execute e) (mark_of-more o h install e) (mark_of-more o h document e)

none_more : (c : Counts) → c ≡ counts_with [] c
none_more c = same_three c.execute c.install c.document (c.execute + 0) (c.install + 0) (c.document + 0) (omega arith) (omega arith) (omega arith)

pub tick_stands : TickStands
tick_stands d o h m s = record {
  tables_are = s.tables_are ∙ sym (tables_of-more o h (tick m));
  facts_are = s.facts_are;
  now_is = ap (λ n. max n m) s.now_is ∙ sym (now_of-more o h (tick m));
  objects_are =
      ap (λ xs. filter (is_unexpired (max d.now m)) xs) s.objects_are
      ∙ ap (λ n. filter (is_unexpired (max n m)) (objects_of o h)) s.now_is
      ∙ sym (objects_of-more o h (tick m));
  counts_are = s.counts_are ∙ none_more (counts_of o h) ∙ sym (counts_of-more o h (tick m));
  rings_are = s.rings_are ∙ sym (rings_of-more o h (tick m));
  sound = s.sound;
  legal = legal_more o h (tick m) s.legal tt;
}

quiet_by : (d : Plain) (o : Opening) (h : List Event) (e : Event) → tables_step e (tables_of o h) ≡ tables_of o h → now_step e (now_of o h) ≡ now_of o h → objects_step o h e (objects_of o h) ≡ objects_of o h → touched_step e (tables_of o h) ≡ [] → MayCome o h e → Stands d o h → Stands d o (h ++ e ∷ [])
quiet_by d o h e a b c f may s = record {
  tables_are = s.tables_are ∙ sym a ∙ sym (tables_of-more o h e);
  facts_are = s.facts_are;
  now_is = s.now_is ∙ sym b ∙ sym (now_of-more o h e);
  objects_are = s.objects_are ∙ sym c ∙ sym (objects_of-more o h e);
  counts_are = s.counts_are ∙ none_more (counts_of o h) ∙ ap (λ l. counts_with l (counts_of o h)) (sym f) ∙ sym (counts_of-more o h e);
  rings_are = s.rings_are ∙ ap (λ l. rings_with l (rings_of o h)) (sym f) ∙ sym (rings_of-more o h e);
  sound = s.sound;
  legal = legal_more o h e s.legal may;
}

pub quiet_stands : QuietStands
quiet_stands d o h (ask a) is s = quiet_by d o h (ask a) refl refl refl refl tt s
quiet_stands d o h look is s = quiet_by d o h look refl refl refl refl tt s
quiet_stands d o h (edit_failed e) is s = cc
quiet_stands d o h (edit_starved e) is s = cc
quiet_stands d o h (tick m) is s = cc
quiet_stands d o h (offer k) is s = cc
quiet_stands d o h (edit e) is s = cc

pub failed_stands : FailedStands
failed_stands d o h e accepted s = quiet_by d o h (edit_failed e) refl refl refl refl (subst (λ t. IsAccepted (does t e).answer) s.tables_are accepted) s

pub starved_stands : StarvedStands
starved_stands d o h e accepted s = quiet_by d o h (edit_starved e) refl refl refl refl (subst (λ t. IsAccepted (does t e).answer) s.tables_are accepted) s

pub opening_stands : OpeningStands
opening_stands o sound = record {
  tables_are = refl;
  facts_are = refl;
  now_is = refl;
  objects_are = refl;
  counts_are = same_three o.counts.execute o.counts.install o.counts.document (o.counts.execute + 0) (o.counts.install + 0) (o.counts.document + 0) (omega arith) (omega arith) (omega arith);
  rings_are = refl;
  sound = sound;
  legal = legal_start o;
}

pub edit_stands : EditStands
edit_stands d o h e s = record {
  tables_are = ap (λ t. (does t e).tables) s.tables_are ∙ sym (tables_of-more o h (edit e));
  facts_are = s.facts_are;
  now_is = s.now_is ∙ sym (now_of-more o h (edit e));
  objects_are =
      sym (edit_purges (does d.tables e).touched d.entries)
      ∙ ap (filter (outlasts (does d.tables e).touched)) s.objects_are
      ∙ ap (λ t. filter (outlasts (does t e).touched) (objects_of o h)) s.tables_are
      ∙ sym (objects_of-more o h (edit e));
  counts_are =
      ap (counts_with (does d.tables e).touched) s.counts_are
      ∙ ap (λ t. counts_with (does t e).touched (counts_of o h)) s.tables_are
      ∙ sym (counts_of-more o h (edit e));
  rings_are =
      ap (rings_with (does d.tables e).touched) s.rings_are
      ∙ ap (λ t. rings_with (does t e).touched (rings_of o h)) s.tables_are
      ∙ sym (rings_of-more o h (edit e));
  sound = s.sound;
  legal = legal_more o h (edit e) s.legal tt;
}

-- the counts of a history are its marks
pub count_mark : (o : Opening) (h : List Event) (kind : Kind) → count_of kind (counts_of o h) ≡ mark_of o h kind
count_mark o h execute = refl
count_mark o h install = refl
count_mark o h document = refl

-- the decision on this desk is that of the history
offered_is : (d : Plain) (o : Opening) (h : List Event) (k : ℕ) (t : Ticket) → Stands d o h → IsTicketOf t o h k → offered t d ≡ decision_of o h (objects_of o h) k (ticket_ask t) t.subject
offered_is d o h k t s is =
    let moved : ℕ → List Rank → Bool = λ n r. moved_by LATE_EDITS (judged t) (n - t.mark) r in
    let by : Bool → ℕ → List Entry → Offered = λ b now xs. by_rules (not t.keep || inhibits (judged t)) b (not (is_below now (ends (judged t)))) (list_any (is_for t.kind t.subject) xs) (nat_le MOST_ENTRIES (length xs)) in
    ap (by (moved (count_of t.kind d.counts) (ring_in t.kind d.rings)) d.now) s.objects_are
    ∙ ap (λ n. by (moved n (ring_in t.kind d.rings)) d.now (objects_of o h)) (ap (count_of t.kind) s.counts_are ∙ count_mark o h t.kind)
    ∙ ap (λ r. by (moved (mark_of o h t.kind) r) d.now (objects_of o h)) (ap (ring_in t.kind) s.rings_are ∙ ring_kind o h t.kind)
    ∙ ap (λ n. by (moved (mark_of o h t.kind) (ring_of LATE_EDITS o h t.kind)) n (objects_of o h)) s.now_is
    ∙ sym (ticket_decides t o h k is)

pub finish_stands : FinishStands
finish_stands d o h k t s is =
    let x : Entry = record { kind = t.kind; subject = t.subject; outcome = judged t } in
    let decided = offered_is d o h k t s is in
    let objects : with_offer (offered t d) x d.entries ≡ objects_of o (h ++ offer k ∷ []) =
    ap (λ xs. with_offer (offered t d) x xs) s.objects_are
    ∙ ap (λ f. with_offer f x (objects_of o h)) decided
    ∙ ap (λ (out : Outcome). with_offer (decision_of o h (objects_of o h) k (ticket_ask t) t.subject) (record { kind = t.kind; subject = t.subject; outcome = out }) (objects_of o h)) (ticket_judges t o h k is)
    ∙ ap (λ e. offer_at o h (objects_of o h) k e) (sym is.begun)
    ∙ sym (objects_of-more o h (offer k)) in (
      decided,
      record {
        tables_are = s.tables_are ∙ sym (tables_of-more o h (offer k));
        facts_are = s.facts_are;
        now_is = s.now_is ∙ sym (now_of-more o h (offer k));
        objects_are = objects;
        counts_are = s.counts_are ∙ none_more (counts_of o h) ∙ sym (counts_of-more o h (offer k));
        rings_are = s.rings_are ∙ sym (rings_of-more o h (offer k));
        sound = s.sound;
        legal = legal_more o h (offer k) s.legal (record {
          kind = t.kind;
          subject = t.subject;
          keep = t.keep;
          begun = is.begun;
          missed = is.missed;
          once = is.waits;
        });
      },
    )

pub known_answers : KnownAnswers
known_answers d o h kind subject keep e s is =
    ap (λ (t : Tables). verdict_by t.enabled d.now e.outcome) s.tables_are
    ∙ ap (λ n. verdict_by (tables_of o h).enabled n e.outcome) s.now_is
    ∙ found_answers o h kind subject keep e s.sound (ap (find (is_for kind subject)) (sym s.objects_are) ∙ is)

pub begin_gives : BeginGives
begin_gives d o h kind subject keep rows s missed snap =
    let e : Event = ask (record { kind = kind; subject = Some subject; keep = keep }) in
    let taken : h ≡ take (length h) (h ++ e ∷ []) = sym (all_taken h e) in
    record {
      facts_are = s.facts_are;
      begun = get_last h e;
      missed = ap (list_any (is_for kind subject)) (ap (objects_of o) (sym taken) ∙ sym s.objects_are) ∙ missed;
      moment = s.now_is ∙ ap (now_of o) taken;
      switch = ap (λ (t : Tables). t.enabled) s.tables_are ∙ ap (λ x. (tables_of o x).enabled) taken;
      mark_is = ap (count_of kind) s.counts_are ∙ count_mark o h kind ∙ ap (λ x. mark_of o x kind) taken;
      decide = subst (λ (t : Tables). DecideAlike kind t.rows rows) (s.tables_are ∙ ap (tables_of o) taken) snap;
      waits = All-push (λ x. x ≢ offer (length h)) h e (none_ahead o h s.legal) (λ same. cc);
    }
