-- A ticket stays that of its place, and says what the rules said there.
use Rattle.std.proofs.Common.{◌≡◌, ℕ, ◌-◌, ◌<◌, ◌≤◌, List, [], ◌∷◌, ◌++◌, length, take, refl, sym, ap, ◌∙◌, subst, arith, Option, Some, None}
use Rattle.std.specs.Prelude.{◌≢◌, Bool, true, false, not, ◌||◌, nat_le}
use Rattle.std.specs.List.{filter, list_any}
use Rattle.std.proofs.lemmas.List.{take-append-le}
use Rattle.std.proofs.lemmas.Option.{slice_get_within}
use Rattle.std.proofs.lemmas.Bool.{ltb-true, lt-ltb}
use Rattle.std.proofs.lemmas.List.Elements.{All-push}
use Rattle.policy_model.specs.Rules.{is_below}
use Rattle.policy_model.specs.Outcomes.{Outcome, outcome, verdict_by}
use Rattle.policy_model.specs.History.{offer, Entry, tables_of, now_of}
use Rattle.object_model.specs.Objects.{is_unexpired, outlasts, is_for, ends, inhibits, by_rules}
use Rattle.object_model.specs.Past.{mark_of}
use Rattle.object_model.specs.Kept.{entry_of, objects_of}
use Rattle.object_model.specs.declared.limits.TheConstants.{MOST_ENTRIES, LATE_EDITS}
use Rattle.object_model.specs.Tickets.{ticket_ask, DecideAlike, judged}
use Rattle.object_model.specs.Laws.{TicketStays, TicketJudges, TicketAnswers, TicketDecides}
use Rattle.object_model.specs.DropLaws.{TickPassesOver, EditPassesOver}
use Rattle.object_model.specs.Rings.{ring_of, moved_by}
use Rattle.object_model.proofs.RingLaws.{moved_by_ring}
use Rattle.object_model.proofs.LegalHistories.{get_more}

pub ticket_stays : TicketStays
ticket_stays t o h k e other is =
    let within : k < length h = slice_get_within h k _ is.begun in
    let same : take k h ≡ take k (h ++ e ∷ []) = sym (take-append-le k h (e ∷ []) (omega (arith, within))) in
    record {
      facts_are = is.facts_are;
      begun = get_more h (e ∷ []) k _ is.begun;
      missed = subst (λ x. list_any (is_for t.kind t.subject) (objects_of o x) ≡ false) same is.missed;
      moment = is.moment ∙ ap (now_of o) same;
      switch = is.switch ∙ ap (λ x. (tables_of o x).enabled) same;
      mark_is = is.mark_is ∙ ap (λ x. mark_of o x t.kind) same;
      decide = subst (λ x. DecideAlike t.kind (tables_of o x).rows t.rows) same is.decide;
      waits = All-push (λ x. x ≢ offer k) h e is.waits other;
    }

pub ticket_judges : TicketJudges
ticket_judges t o h k is =
    is.decide t.subject t.facts t.at
    ∙ ap (λ f. outcome (tables_of o (take k h)).rows t.kind t.subject f t.at) is.facts_are
    ∙ ap (λ m. outcome (tables_of o (take k h)).rows t.kind t.subject o.facts m) is.moment

pub ticket_answers : TicketAnswers
ticket_answers t o h k is =
    ap (verdict_by t.enabled t.at) (ticket_judges t o h k is)
    ∙ ap (λ b. verdict_by b t.at (entry_of o (take k h) (ticket_ask t) t.subject).outcome) is.switch
    ∙ ap (λ m. verdict_by (tables_of o (take k h)).enabled m (entry_of o (take k h) (ticket_ask t) t.subject).outcome) is.moment

pub ticket_decides : TicketDecides
ticket_decides t o h k is =
    let x : Entry = entry_of o (take k h) (ticket_ask t) t.subject in
    let same : x.outcome ≡ judged t = sym (ticket_judges t o h k is) in
    let twice' : Bool = list_any (is_for t.kind t.subject) (objects_of o h) in
    let full' : Bool = nat_le MOST_ENTRIES (length (objects_of o h)) in
    let moved : Outcome → ℕ → Bool = λ out n. moved_by LATE_EDITS out (mark_of o h t.kind - n) (ring_of LATE_EDITS o h t.kind) in
    ap (λ b. by_rules (not t.keep || inhibits x.outcome) b (not (is_unexpired (now_of o h) x)) twice' full')
    (sym (moved_by_ring LATE_EDITS o h k x) ∙ ap (moved x.outcome) (sym is.mark_is))
    ∙ ap (λ out. by_rules (not t.keep || inhibits out) (moved out t.mark) (not (is_below (now_of o h) (ends out))) twice' full') same

-- filters in turn

filters_one : {X : Type 0} (p q : X → Bool) (x : X) (xs : List X) (b c : Bool) → p x ≡ b → q x ≡ c → filter p (filter q xs) ≡ filter q (filter p xs) → filter p (filter q (x ∷ xs)) ≡ filter q (filter p (x ∷ xs))
filters_one p q x xs true true e f ih = grind (arith, e, f, ih)
filters_one p q x xs true false e f ih = grind (arith, e, f, ih)
filters_one p q x xs false true e f ih = grind (arith, e, f, ih)
filters_one p q x xs false false e f ih = grind (arith, e, f, ih)

filters_swap : {X : Type 0} (p q : X → Bool) (xs : List X) → filter p (filter q xs) ≡ filter q (filter p xs)
filters_swap p q [] = refl
filters_swap p q (x ∷ xs) = filters_one p q x xs (p x) (q x) refl refl (filters_swap p q xs)

weaker_one : {X : Type 0} (p q : X → Bool) (x : X) (xs : List X) (b c : Bool) → p x ≡ b → q x ≡ c → (b ≡ true → c ≡ true) → filter p (filter q xs) ≡ filter p xs → filter p (filter q (x ∷ xs)) ≡ filter p (x ∷ xs)
weaker_one p q x xs true true e f w ih = grind (arith, e, f, ih)
weaker_one p q x xs true false e f w ih = cc (w refl)
weaker_one p q x xs false true e f w ih = grind (arith, e, f, ih)
weaker_one p q x xs false false e f w ih = grind (arith, e, f, ih)

filter_weaker : {X : Type 0} (p q : X → Bool) → ((x : X) → p x ≡ true → q x ≡ true) → (xs : List X) → filter p (filter q xs) ≡ filter p xs
filter_weaker p q w [] = refl
filter_weaker p q w (x ∷ xs) = weaker_one p q x xs (p x) (q x) refl refl (w x) (filter_weaker p q w xs)

below_sooner : (o : Option ℕ) (now later : ℕ) → now ≤ later → is_below later o ≡ true → is_below now o ≡ true
below_sooner None now later le h = refl
below_sooner (Some e) now later le h = let lt : later < e = ltb-true later e h in lt-ltb now e (omega (arith, le, lt))

pub tick_passes_over : TickPassesOver
tick_passes_over now later xs le = filter_weaker (is_unexpired later) (is_unexpired now) (λ e h. below_sooner (ends e.outcome) now later le h) xs

pub edit_passes_over : EditPassesOver
edit_passes_over now touched xs = filters_swap (outlasts touched) (is_unexpired now) xs
