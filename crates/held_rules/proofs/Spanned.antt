-- Rules of a span, where none outside of it is selected.
use Rattle.std.proofs.Common.{◌≡◌, ◌≢◌, inl, inr, ◌-◌, ℕ, zero, suc, ◌+◌, ◌<◌, ◌≤◌, length, take, drop, get_or, List, [], ◌∷◌, ◌++◌, refl, sym, ap, ◌∙◌, subst, arith}
use Rattle.std.specs.Prelude.{Bool, true, false, cond, nat_lt, ◌==◌, ◌&&◌, if◌then◌else◌}
use Rattle.std.specs.List.{filter}
use Rattle.std.specs.List.Sorted.{IsPartitionedBy, IsPartitionPoint}
use Rattle.std.proofs.Math.Nat.{eq-or-lt_of_le}
use Rattle.std.proofs.Math.Bool.{false-and}
use Rattle.std.proofs.lemmas.Bool.Decides.{nat_tests}
use Rattle.std.proofs.lemmas.List.{length-map, length-drop, length-take-le, get_or-take, get_or-drop, take-map, drop-map, take-append-drop, drop_all, map-append}
use Rattle.policy_model.specs.Rules.{Row}
use Rattle.policy_model.specs.Contents.{by_id, Selector}
use Rattle.policy_model.specs.Changes.{named_by, in_kind, selects, change}
use Rattle.rule_values.specs.declared.rule.Rule.{Rule}
use Rattle.list_marks.specs.declared.span.Span.{Span}
use Rattle.rule_values.specs.Rule.{row_of, rows_of}
use Rattle.held_rules.specs.Spans.{AreRising, IsSpan}

none_of : (test : Row → Bool) (rules : List Rule) → ((k : ℕ) (d : Rule) → k < length rules → test (row_of (get_or rules k d)) ≡ false) → filter test (rows_of rules) ≡ []
none_of test [] h = refl
none_of test (x ∷ rules) h =
    ap (λ b. cond b (row_of x ∷ filter test (rows_of rules)) (filter test (rows_of rules))) (h zero x (omega arith))
    ∙ none_of test rules (λ k d lt. h (suc k) d (omega (arith, lt)))

unnamed : (s : Selector) (n : ℕ) (r : Row) → s.which ≡ by_id n → r.id ≢ n → selects s r ≡ false
unnamed s n r e ne =
    let differs : (r.id == n) ≡ false = grind (arith, nat_tests, ne) in
    ap (λ w. named_by w r && in_kind s.kind r) e ∙ (ap (λ b. b && in_kind s.kind r) differs ∙ false-and (in_kind s.kind r))

-- numbers that rise are below another up to some place
pub parted : (rules : List Rule) (n : ℕ) → AreRising rules → IsPartitionedBy (λ r. nat_lt r.id n) rules
parted rules n up i j d le lt t = elim (eq-or-lt_of_le le) [
  | inl e ↦ subst (λ k. nat_lt (get_or rules k d).id n ≡ true) (sym e) t
  | inr less ↦ let rises : (get_or rules i d).id < (get_or rules j d).id = up i j d less lt in grind (arith, nat_tests, rises, t)
]

below_differs : (a n : ℕ) → nat_lt a n ≡ true → a ≢ n
below_differs a n h = grind (arith, nat_tests, h)

above_differs : (a b n : ℕ) → nat_lt a n ≡ false → a < b → b ≢ n
above_differs a b n h lt = grind (arith, nat_tests, h, lt)

-- the span of a number
pub id_span : (s : Selector) (n : ℕ) (rules : List Rule) (from to : ℕ) → s.which ≡ by_id n → AreRising rules → IsPartitionPoint (λ r. nat_lt r.id n ≡ true) (λ r. nat_lt r.id n ≡ false) rules from →
    from ≤ to → to ≤ length rules → ((k : ℕ) → to ≤ k → k < length rules → from < k) → IsSpan s (rows_of rules) (record { from = from; to = to })
id_span s n rules from to e up point le within late = record {
  ordered = le;
  within = omega (arith, within, length-map rules row_of);
  front = ap (filter (selects s)) (take-map row_of from rules) ∙ none_of (selects s) (take from rules) (λ k d lt.
      let few : length (take from rules) ≡ from = length-take-le from rules (omega (arith, le, within)) in
      let less : k < from = omega (arith, lt, few) in
      ap (λ r. selects s (row_of r)) (get_or-take from rules k d less) ∙ unnamed s n (row_of (get_or rules k d)) e (below_differs (get_or rules k d).id n (point.0 k d (omega arith) less)));
  rear = ap (filter (selects s)) (drop-map row_of to rules) ∙ none_of (selects s) (drop to rules) (λ k d lt.
      let rest : length (drop to rules) ≡ length rules - to = length-drop to rules in
      let less : to + k < length rules = omega (arith, lt, rest) in
      let behind : from < to + k = late (to + k) (omega arith) less in
      ap (λ r. selects s (row_of r)) (get_or-drop to rules k d)
      ∙ unnamed s n (row_of (get_or rules (to + k) d)) e
      (above_differs (get_or rules from d).id (get_or rules (to + k) d).id n (point.1 from d (omega arith) (omega (arith, behind, less))) (up from (to + k) d behind less)));
}

-- the span of all rules
pub whole_span : (s : Selector) (rules : List Rule) (n : ℕ) → n ≡ length rules → IsSpan s (rows_of rules) (record { from = 0; to = n })
whole_span s rules n e =
    let same : length (rows_of rules) ≡ length rules = length-map rules row_of in
    record {
      ordered = omega arith;
      within = omega (arith, e, same);
      front = refl;
      rear = ap (filter (selects s)) (drop_all n (rows_of rules) (omega (arith, e, same)));
    }

none_head : (b : Bool) (x : Row) (xs : List Row) → cond b (x ∷ xs) xs ≡ [] → (b ≡ false) × (xs ≡ [])
none_head true x xs e = cc
none_head false x xs e = (refl, e)

-- rows of which none is selected stay as they are
pub unchanged : (test : Row → Bool) (g : Row → Row) (rows : List Row) → filter test rows ≡ [] → change test g rows ≡ rows
unchanged test g [] e = refl
unchanged test g (x ∷ rows) e =
    let h = none_head (test x) x (filter test rows) e in
    ap (λ b. (if b then g x else x) ∷ change test g rows) h.0 ∙ ap (λ l. x ∷ l) (unchanged test g rows h.1)

-- where changing begins, and where it ends
pub change_begins : (s : Selector) (g : Row → Row) (rows : List Row) (span : Span) → IsSpan s rows span → rows ≡ change (selects s) g (take span.from rows) ++ drop span.from rows
change_begins s g rows span h =
    sym (ap (λ l. l ++ drop span.from rows) (unchanged (selects s) g (take span.from rows) h.front) ∙ take-append-drop span.from rows)

pub change_ends : (s : Selector) (g : Row → Row) (rows : List Row) (span : Span) → IsSpan s rows span → change (selects s) g (take span.to rows) ++ drop span.to rows ≡ change (selects s) g rows
change_ends s g rows span h =
    ap (λ l. change (selects s) g (take span.to rows) ++ l) (sym (unchanged (selects s) g (drop span.to rows) h.rear))
    ∙ (sym (map-append (λ r. if selects s r then g r else r) (take span.to rows) (drop span.to rows))
    ∙ ap (change (selects s) g) (take-append-drop span.to rows))
