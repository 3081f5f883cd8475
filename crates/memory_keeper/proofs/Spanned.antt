-- Stored rules of a span, where none outside of it is selected.
use Rattle.std.proofs.Common.{◌≡◌, inl, inr, ◌-◌, ℕ, ℤ, pos, zero, suc, ◌+◌, ◌<◌, ◌≤◌, ◌<ℤ◌, length, take, drop, get_or, List, [], ◌∷◌, ◌++◌, refl, sym, ap, ◌∙◌, subst, arith}
use Rattle.std.proofs.Common.{int_eq}
use Rattle.std.specs.Prelude.{Bool, true, false, cond, int_lt, ◌&&◌, if◌then◌else◌}
use Rattle.std.specs.List.{filter}
use Rattle.std.specs.List.Sorted.{IsPartitionedBy, IsPartitionPoint}
use Rattle.std.proofs.Math.Nat.{eq-or-lt_of_le}
use Rattle.std.proofs.lemmas.Bool.{false_from_ne_true}
use Rattle.std.proofs.lemmas.Bool.Decides.{Decides-int_eq}
use Rattle.std.proofs.lemmas.Int.{ints}
use Rattle.std.proofs.lemmas.List.{length-map, length-drop, length-take-le, get_or-map, get_or-take, get_or-drop, take-map, drop-map, take-append-drop, map-append}
use Rattle.policy_model.specs.Contents.{by_id, Selector}
use Rattle.store_model.specs.Raw.{RawRule}
use Rattle.store_model.specs.Change.{raw_named_by, raw_in_kind, raw_selects, raw_change}
use Rattle.list_marks.specs.declared.span.Span.{Span}
use Rattle.raw_tables.specs.declared.rule.RawRule as code
use Rattle.raw_tables.specs.Raw.{plain_rule, plain_rules}
use Rattle.memory_keeper.specs.Spans.{AreRising, IsSpan}

pub and_false : (b : Bool) → (false && b) ≡ false
and_false b = refl

none_of : (test : RawRule → Bool) (rules : List code.RawRule) → ((k : ℕ) (d : code.RawRule) → k < length rules → test (plain_rule (get_or rules k d)) ≡ false) → filter test (plain_rules rules) ≡ []
none_of test [] h = refl
none_of test (x ∷ rules) h =
    ap (λ b. cond b (plain_rule x ∷ filter test (plain_rules rules)) (filter test (plain_rules rules))) (h zero x (omega arith))
    ∙ none_of test rules (λ k d lt. h (suc k) d (omega (arith, lt)))

unnamed : (s : Selector) (n : ℕ) (r : RawRule) → s.which ≡ by_id n → int_eq r.id (pos n) ≡ false → raw_selects s r ≡ false
unnamed s n r e differs = ap (λ w. raw_named_by w r && raw_in_kind s.kind r) e ∙ (ap (λ b. b && raw_in_kind s.kind r) differs ∙ and_false (raw_in_kind s.kind r))

below_stays : (a b n : ℤ) → a <ℤ b → int_lt b n ≡ true → int_lt a n ≡ true
below_stays a b n lt h = by (int_lt a n) refl
  where
    by : (t : Bool) → int_lt a n ≡ t → int_lt a n ≡ true
    by true e = e
    by false e = absurd (omega (arith, ints, lt, h, e))

not_below_itself : (n : ℤ) → int_lt n n ≡ true → ⊥
not_below_itself n h = omega (arith, ints, h)

below_differs : (a n : ℤ) → int_lt a n ≡ true → int_eq a n ≡ false
below_differs a n h = false_from_ne_true (int_eq a n) (λ q. not_below_itself n (subst (λ x. int_lt x n ≡ true) ((Decides-int_eq a n).0 q) h))

above_differs : (a b n : ℤ) → int_lt a n ≡ false → a <ℤ b → int_eq b n ≡ false
above_differs a b n h lt =
    false_from_ne_true (int_eq b n) (λ q. let up : a <ℤ n = subst (λ x. a <ℤ x) ((Decides-int_eq b n).0 q) lt in omega (arith, ints, h, up))

rising_at : (rules : List code.RawRule) (i j : ℕ) (d : code.RawRule) → AreRising (plain_rules rules) → i < j → j < length rules → (get_or rules i d).id <ℤ (get_or rules j d).id
rising_at rules i j d up lt in' =
    let few : j < length (plain_rules rules) = omega (arith, in', length-map rules plain_rule) in
    let one : get_or (plain_rules rules) i (plain_rule d) ≡ plain_rule (get_or rules i d) = get_or-map plain_rule rules i d (plain_rule d) (omega (arith, lt, in')) in
    let other : get_or (plain_rules rules) j (plain_rule d) ≡ plain_rule (get_or rules j d) = get_or-map plain_rule rules j d (plain_rule d) in' in
    subst (λ (r : RawRule). r.id <ℤ (get_or rules j d).id) one (subst (λ (r : RawRule). (get_or (plain_rules rules) i (plain_rule d)).id <ℤ r.id) other (up i j (plain_rule d) lt few))

-- numbers that rise are below another up to some place
pub parted : (rules : List code.RawRule) (n : ℤ) → AreRising (plain_rules rules) → IsPartitionedBy (λ (r : code.RawRule). int_lt r.id n) rules
parted rules n up i j d le lt t = elim (eq-or-lt_of_le le) [
  | inl e ↦ subst (λ k. int_lt (get_or rules k d).id n ≡ true) (sym e) t
  | inr less ↦ below_stays (get_or rules i d).id (get_or rules j d).id n (rising_at rules i j d up less lt) t
]

-- the span of a number
pub id_span : (s : Selector) (n : ℕ) (rules : List code.RawRule) (from to : ℕ) → s.which ≡ by_id n → AreRising (plain_rules rules) →
    IsPartitionPoint (λ (r : code.RawRule). int_lt r.id (pos n) ≡ true) (λ (r : code.RawRule). int_lt r.id (pos n) ≡ false) rules from →
    from ≤ to → to ≤ length rules → ((k : ℕ) → to ≤ k → k < length rules → from < k) → IsSpan s (plain_rules rules) (record { from = from; to = to })
id_span s n rules from to e up point le within late = record {
  ordered = le;
  within = omega (arith, within, length-map rules plain_rule);
  front = ap (filter (raw_selects s)) (take-map plain_rule from rules) ∙ none_of (raw_selects s) (take from rules) (λ k d lt.
      let few : length (take from rules) ≡ from = length-take-le from rules (omega (arith, le, within)) in
      let less : k < from = omega (arith, lt, few) in
      ap (λ (r : code.RawRule). raw_selects s (plain_rule r)) (get_or-take from rules k d less)
      ∙ unnamed s n (plain_rule (get_or rules k d)) e (below_differs (get_or rules k d).id (pos n) (point.0 k d (omega arith) less)));
  rear = ap (filter (raw_selects s)) (drop-map plain_rule to rules) ∙ none_of (raw_selects s) (drop to rules) (λ k d lt.
      let rest : length (drop to rules) ≡ length rules - to = length-drop to rules in
      let less : to + k < length rules = omega (arith, lt, rest) in
      let behind : from < to + k = late (to + k) (omega arith) less in
      ap (λ (r : code.RawRule). raw_selects s (plain_rule r)) (get_or-drop to rules k d)
      ∙ unnamed s n (plain_rule (get_or rules (to + k) d)) e
      (above_differs (get_or rules from d).id (get_or rules (to + k) d).id (pos n) (point.1 from d (omega arith) (omega (arith, behind, less))) (rising_at rules from (to + k) d up behind less)));
}

none_head : (b : Bool) (x : RawRule) (xs : List RawRule) → cond b (x ∷ xs) xs ≡ [] → (b ≡ false) × (xs ≡ [])
none_head true x xs e = cc
none_head false x xs e = (refl, e)

-- rules of which none is selected stay as they are
unchanged : (s : Selector) (g : RawRule → RawRule) (rules : List RawRule) → filter (raw_selects s) rules ≡ [] → raw_change s g rules ≡ rules
unchanged s g [] e = refl
unchanged s g (x ∷ rules) e =
    let h = none_head (raw_selects s x) x (filter (raw_selects s) rules) e in
    ap (λ b. (if b then g x else x) ∷ raw_change s g rules) h.0 ∙ ap (λ l. x ∷ l) (unchanged s g rules h.1)

-- where changing begins, and where it ends
pub change_begins : (s : Selector) (g : RawRule → RawRule) (rules : List RawRule) (span : Span) → IsSpan s rules span → rules ≡ raw_change s g (take span.from rules) ++ drop span.from rules
change_begins s g rules span h =
    sym (ap (λ l. l ++ drop span.from rules) (unchanged s g (take span.from rules) h.front) ∙ take-append-drop span.from rules)

pub change_ends : (s : Selector) (g : RawRule → RawRule) (rules : List RawRule) (span : Span) → IsSpan s rules span → raw_change s g (take span.to rules) ++ drop span.to rules ≡ raw_change s g rules
change_ends s g rules span h =
    ap (λ l. raw_change s g (take span.to rules) ++ l) (sym (unchanged s g (drop span.to rules) h.rear))
    ∙ (sym (map-append (λ r. if raw_selects s r then g r else r) (take span.to rules) (drop span.to rules))
    ∙ ap (raw_change s g) (take-append-drop span.to rules))
