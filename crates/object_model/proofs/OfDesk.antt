-- What was judged on a desk stays of it, and its offer keeps the desk fresh.
use Rattle.std.proofs.Common.{◌≡◌, ℕ, ◌-◌, ◌≤◌, List, length, take, drop, refl, sym, ap, ◌∙◌, subst, arith}
use Rattle.std.specs.Prelude.{Bool, true, false, not, ◌||◌, ◌&&◌, nat_lt, nat_le}
use Rattle.std.specs.List.{filter, list_any}
use Rattle.std.proofs.lemmas.Bool.{not-false, or_parts}
use Rattle.req_tree.specs.Subject.{Subject}
use Rattle.policy_model.specs.Rules.{Row, Kind, is_below}
use Rattle.policy_model.specs.Edits.{does}
use Rattle.policy_model.specs.Tables.{Tables}
use Rattle.policy_model.specs.Outcomes.{Outcome, outcome}
use Rattle.policy_model.specs.History.{Entry, tables_of, now_of}
use Rattle.policy_model.proofs.OwnIds.{edit_ids, ids_after}
use Rattle.object_model.specs.Objects.{rests_on, is_governed, is_moved, is_for, touches, ends, inhibits}
use Rattle.object_model.specs.Past.{count_of, mark_of, touched_since}
use Rattle.object_model.specs.Purges.{first_touched}
use Rattle.object_model.specs.Rings.{ring_of, moved_by}
use Rattle.object_model.specs.Plain.{Plain, ring_in, with_first}
use Rattle.object_model.specs.Kept.{entry_of}
use Rattle.object_model.specs.declared.limits.TheConstants.{MOST_ENTRIES, LATE_EDITS}
use Rattle.object_model.specs.Tickets.{ticket_ask, judged}
use Rattle.object_model.specs.Stands.{edited, one_more}
use Rattle.object_model.specs.OfDesk.{IsOfDesk}
use Rattle.object_model.specs.OfDeskLaws.{BeginsOfDesk, TickKeepsOf, EditKeepsOf, EntriesKeepOf, OfferKeepsFresh, FinishKeepsFresh, HistoryTicketsAreOf}
use Rattle.object_model.proofs.Says.{Lasts, Says}
use Rattle.object_model.proofs.OutcomeSays.{outcome_says}
use Rattle.object_model.proofs.Right.{right_through}
use Rattle.object_model.proofs.EditLaws.{edit_keeps}
use Rattle.object_model.proofs.PastLaws.{tables_cut, now_cut, events_keep}
use Rattle.object_model.proofs.KeptLaws.{when_offered, rests_steadily}
use Rattle.object_model.proofs.Sound.{fresh_from, fresh_to}
use Rattle.object_model.proofs.CountLaws.{mark_cut}
use Rattle.object_model.proofs.MarkBounds.{counted_by}
use Rattle.object_model.proofs.RingLaws.{moved_by_ring}
use Rattle.object_model.proofs.RingSteps.{ring_kind, ring_with, outcome_stays, unmoved}
use Rattle.object_model.proofs.TicketLaws.{ticket_judges}
use Rattle.object_model.proofs.StandsLemmas.{count_mark}

pub begins_of_desk : BeginsOfDesk
begins_of_desk d kind subject keep rows alike = record { began = omega arith; counted = omega arith; says = λ same. alike subject d.facts d.now }

pub tick_keeps_of : TickKeepsOf
tick_keeps_of d m kind subject at mark said of = record { began = omega (arith, of.began); counted = of.counted; says = of.says }

pub entries_keep_of : EntriesKeepOf
entries_keep_of d entries kind subject at mark said of = record { began = of.began; counted = of.counted; says = of.says }

count_grows : (b : Bool) (n : ℕ) → n ≤ one_more b n
count_grows true n = omega arith
count_grows false n = omega arith

pub edit_keeps_of : EditKeepsOf
edit_keeps_of d e ids kind subject at mark said of =
    let touched : List Row = (does d.tables e).touched in
    let count : count_of kind (edited e d).counts ≡ one_more (touches kind touched) (count_of kind d.counts) = counted_by kind touched d.counts in
    record {
      began = of.began;
      counted = omega (arith, of.counted, count, count_grows (touches kind touched) (count_of kind d.counts));
      says = λ still.
          let un = unmoved said kind touched (count_of kind d.counts) mark (ring_in kind d.rings) of.counted
          (ap (λ n. moved_by LATE_EDITS said (n - mark) (with_first (first_touched kind touched) (ring_in kind d.rings))) (sym count)
          ∙ ap (λ r. moved_by LATE_EDITS said (count_of kind (edited e d).counts - mark) r) (sym (ring_with kind touched d.rings)) ∙ still) in
          outcome_stays d.tables.rows (does d.tables e).tables.rows kind subject d.facts at said (edit_ids e d.tables ids).apart
          (sym (edit_keeps (rests_on kind said) (rests_steadily kind said) d.tables e un.0)) (of.says un.1);
    }

-- an outcome that is of the desk, hasn't moved and hasn't ended, is what the rules say
still_lasts : (d : Plain) (kind : Kind) (subject : Subject) (at mark : ℕ) (said : Outcome) → IsOfDesk d kind subject at mark said → moved_by LATE_EDITS said (count_of kind d.counts - mark) (ring_in kind d.rings) ≡ false →
    is_below d.now (ends said) ≡ true → Lasts d.tables.rows d.facts d.now (record { kind = kind; subject = subject; outcome = said })
still_lasts d kind subject at mark said of still lasts =
    let right : Says d.tables.rows kind subject d.facts at said = subst (Says d.tables.rows kind subject d.facts at) (sym (of.says still)) (outcome_says d.tables.rows kind subject d.facts at) in
    record { lasts = lasts; right = right_through d.tables.rows d.tables.rows d.facts at d.now (record { kind = kind; subject = subject; outcome = said }) refl of.began lasts right }

pub offer_keeps_fresh : OfferKeepsFresh
offer_keeps_fresh d kind subject keep at mark said ids of fresh =
    let x : Entry = record { kind = kind; subject = subject; outcome = said } in
    let a : Bool = not keep || inhibits said in
    let b : Bool = moved_by LATE_EDITS said (count_of kind d.counts - mark) (ring_in kind d.rings) in
    let c : Bool = not (is_below d.now (ends said)) in
    let f : Bool = list_any (is_for kind subject) d.entries in
    let g : Bool = nat_le MOST_ENTRIES (length d.entries) in
    fresh_from d.tables d.facts d.now _ ids
    (when_offered d.tables.rows d.facts d.now x d.entries a b c f g (λ still lasts. still_lasts d kind subject at mark said of still (not-false _ lasts)) (fresh_to d.tables.rows d.facts d.now d.entries fresh))

pub finish_keeps_fresh : FinishKeepsFresh
finish_keeps_fresh d t ids of fresh = offer_keeps_fresh d t.kind t.subject t.keep t.at t.mark (judged t) ids of fresh

pub ticket_is_of_desk : HistoryTicketsAreOf
ticket_is_of_desk t d o h k s is =
    let x : Entry = entry_of o (take k h) (ticket_ask t) t.subject in
    let same : judged t ≡ x.outcome = ticket_judges t o h k is in
    let p : Row → Bool = rests_on t.kind x.outcome in
    let count : count_of t.kind d.counts ≡ mark_of o h t.kind = ap (count_of t.kind) s.counts_are ∙ count_mark o h t.kind in
    let ring : ring_in t.kind d.rings ≡ ring_of LATE_EDITS o h t.kind = ap (ring_in t.kind) s.rings_are ∙ ring_kind o h t.kind in
    record {
      began = omega (arith, is.moment, s.now_is, now_cut o k h);
      counted = omega (arith, count, is.mark_is, mark_cut o h k t.kind);
      says = λ still.
          let unmoved' : is_moved LATE_EDITS (touched_since o h k) x ≡ false =
          sym (moved_by_ring LATE_EDITS o h k x)
          ∙ ap (λ out. moved_by LATE_EDITS out (mark_of o h t.kind - mark_of o (take k h) t.kind) (ring_of LATE_EDITS o h t.kind)) (sym same)
          ∙ ap (λ n. moved_by LATE_EDITS (judged t) (mark_of o h t.kind - n) (ring_of LATE_EDITS o h t.kind)) (sym is.mark_is)
          ∙ ap (λ n. moved_by LATE_EDITS (judged t) (n - t.mark) (ring_of LATE_EDITS o h t.kind)) (sym count)
          ∙ ap (λ r. moved_by LATE_EDITS (judged t) (count_of t.kind d.counts - t.mark) r) (sym ring) ∙ still in
          let apart = or_parts (list_any (list_any p) (touched_since o h k)) (is_governed x.outcome && nat_lt LATE_EDITS (length (filter (touches t.kind) (touched_since o h k)))) unmoved' in
          let rows : filter p (tables_of o (take k h)).rows ≡ filter p (tables_of o h).rows =
          sym (ap (λ (u : Tables). filter p u.rows) (sym (tables_cut o k h)) ∙ events_keep p (rests_steadily t.kind x.outcome) (drop k h) (tables_of o (take k h)) apart.0) in
          same
          ∙ outcome_stays (tables_of o (take k h)).rows (tables_of o h).rows t.kind t.subject o.facts (now_of o (take k h)) x.outcome (ids_after h o.tables s.sound.ids).apart rows refl
          ∙ ap (λ (u : Tables). outcome u.rows t.kind t.subject o.facts (now_of o (take k h))) (sym s.tables_are)
          ∙ ap (λ f. outcome d.tables.rows t.kind t.subject f (now_of o (take k h))) (sym s.facts_are)
          ∙ ap (λ m. outcome d.tables.rows t.kind t.subject d.facts m) (sym is.moment);
    }
