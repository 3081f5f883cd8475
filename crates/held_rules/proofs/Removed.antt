-- One rule that is taken out.
use Rattle.std.proofs.Common.{◌≡◌, ℕ, suc, ◌+◌, ◌<◌, ◌≤◌, length, take, drop, drop-cons, get_or, set, List, [], ◌∷◌, ◌++◌, refl, sym, ap, ◌∙◌, arith}
use Rattle.std.specs.Prelude.{Bool, true, false, cond, not, map}
use Rattle.std.specs.List.{filter, remove, swap}
use Rattle.std.proofs.lemmas.List.{length-map, get_or-map, take-map, drop-map, take-append-drop, map-append, map-set}
use Rattle.std.proofs.lemmas.List.Elements.{filter-append}
use Rattle.std.proofs.lemmas.List.Edits.{swap_is}
use Rattle.std.proofs.lemmas.List.Filters.{FiltersInPlace}
use Rattle.policy_model.specs.Rules.{Row}
use Rattle.rule_values.specs.declared.rule.Rule.{Rule}
use Rattle.rule_values.specs.Rule.{row_of, rows_of}
use Rattle.held_rules.specs.Marks.{row_mark, AreMarks}

first_none : (b : Bool) (x : Row) (xs : List Row) → cond b (x ∷ xs) xs ≡ [] → (b ≡ false) × (xs ≡ [])
first_none true x xs e = cc
first_none false x xs e = (refl, e)

-- where none passes, all fail
kept_all : (test : Row → Bool) (rows : List Row) → filter test rows ≡ [] → filter (λ r. not (test r)) rows ≡ rows
kept_all test [] e = refl
kept_all test (x ∷ rows) e =
    let h = first_none (test x) x (filter test rows) e in
    ap (λ b. cond (not b) (x ∷ filter (λ r. not (test r)) rows) (filter (λ r. not (test r)) rows)) h.0 ∙ ap (λ l. x ∷ l) (kept_all test rows h.1)

parts : (rows : List Row) (at : ℕ) (d : Row) → at < length rows → rows ≡ take at rows ++ (get_or rows at d ∷ drop (at + 1) rows)
parts rows at d lt =
    let next : suc at ≡ at + 1 = omega arith in
    sym (take-append-drop at rows) ∙ (ap (λ l. take at rows ++ l) (drop-cons rows at d lt) ∙ ap (λ k. take at rows ++ (get_or rows at d ∷ drop k rows)) next)

-- what is left of rows around one place, outside of which none passes
around : (test : Row → Bool) (rows : List Row) (at : ℕ) (d : Row) → at < length rows → filter test (take at rows) ≡ [] → filter test (drop (at + 1) rows) ≡ [] →
    filter (λ r. not (test r)) rows ≡ take at rows ++ cond (not (test (get_or rows at d))) (get_or rows at d ∷ drop (at + 1) rows) (drop (at + 1) rows)
around test rows at d lt front rear =
    ap (filter (λ r. not (test r))) (parts rows at d lt)
    ∙ (filter-append (λ r. not (test r)) (take at rows) (get_or rows at d ∷ drop (at + 1) rows)
    ∙ (ap (λ l. l ++ filter (λ r. not (test r)) (get_or rows at d ∷ drop (at + 1) rows)) (kept_all test (take at rows) front)
    ∙ ap (λ l. take at rows ++ cond (not (test (get_or rows at d))) (get_or rows at d ∷ l) l) (kept_all test (drop (at + 1) rows) rear)))

-- the rule there is taken out
pub removed_at : (test : Row → Bool) (rules : List Rule) (at : ℕ) (d : Rule) → at < length rules → filter test (take at (rows_of rules)) ≡ [] → filter test (drop (at + 1) (rows_of rules)) ≡ [] →
    test (row_of (get_or rules at d)) ≡ true → rows_of (remove rules at) ≡ filter (λ r. not (test r)) (rows_of rules)
removed_at test rules at d lt front rear passes =
    let lt' : at < length (rows_of rules) = omega (arith, lt, length-map rules row_of) in
    let next : suc at ≡ at + 1 = omega arith in
    let here : test (get_or (rows_of rules) at (row_of d)) ≡ true = ap test (get_or-map row_of rules at d (row_of d) lt) ∙ passes in
    map-append row_of (take at rules) (drop (suc at) rules)
    ∙ (ap (λ l. l ++ rows_of (drop (suc at) rules)) (sym (take-map row_of at rules))
    ∙ (ap (λ l. take at (rows_of rules) ++ l) (sym (drop-map row_of (suc at) rules))
    ∙ (ap (λ k. take at (rows_of rules) ++ drop k (rows_of rules)) next
    ∙ sym (around test (rows_of rules) at (row_of d) lt' front rear
    ∙ ap (λ b. take at (rows_of rules) ++ cond (not b) (get_or (rows_of rules) at (row_of d) ∷ drop (at + 1) (rows_of rules)) (drop (at + 1) (rows_of rules))) here))))

-- it stays
pub kept_at : (test : Row → Bool) (rules : List Rule) (at : ℕ) (d : Rule) → at < length rules → filter test (take at (rows_of rules)) ≡ [] → filter test (drop (at + 1) (rows_of rules)) ≡ [] →
    test (row_of (get_or rules at d)) ≡ false → rows_of rules ≡ filter (λ r. not (test r)) (rows_of rules)
kept_at test rules at d lt front rear fails =
    let lt' : at < length (rows_of rules) = omega (arith, lt, length-map rules row_of) in
    let here : test (get_or (rows_of rules) at (row_of d)) ≡ false = ap test (get_or-map row_of rules at d (row_of d) lt) ∙ fails in
    parts (rows_of rules) at (row_of d) lt'
    ∙ sym (around test (rows_of rules) at (row_of d) lt' front rear
    ∙ ap (λ b. take at (rows_of rules) ++ cond (not b) (get_or (rows_of rules) at (row_of d) ∷ drop (at + 1) (rows_of rules)) (drop (at + 1) (rows_of rules))) here)

-- rules of which none passes
kept_rules : (test : Row → Bool) (rules : List Rule) → filter test (rows_of rules) ≡ [] → filter (λ x. not (test (row_of x))) rules ≡ rules
kept_rules test [] e = refl
kept_rules test (x ∷ rules) e =
    let h = first_none (test (row_of x)) (row_of x) (filter test (rows_of rules)) e in
    ap (λ b. cond (not b) (x ∷ filter (λ y. not (test (row_of y))) rules) (filter (λ y. not (test (row_of y))) rules)) h.0 ∙ ap (λ l. x ∷ l) (kept_rules test rules h.1)

-- where none passes before a place, the rules before it are kept
pub kept_before : (test : Row → Bool) (rules : List Rule) (from : ℕ) → from ≤ length rules → filter test (take from (rows_of rules)) ≡ [] → FiltersInPlace (λ x. not (test (row_of x))) rules rules from from
kept_before test rules from within front = record {
  front = sym (kept_rules test (take from rules) (ap (filter test) (sym (take-map row_of from rules)) ∙ front));
  rest = refl;
  behind = omega arith;
  within = within;
  long = refl;
}

map_swapped : {X Y : Type 0} (f : X → Y) (xs : List X) (i j : ℕ) (d : X) → i < length xs → j < length xs → map f (swap xs i j) ≡ swap (map f xs) i j
map_swapped f xs i j d lt lt' =
    let same : length (map f xs) ≡ length xs = length-map xs f in
    ap (map f) (sym (swap_is xs i j d lt lt'))
    ∙ (map-set f (set xs i (get_or xs j d)) j (get_or xs i d)
    ∙ (ap (λ l. set l j (f (get_or xs i d))) (map-set f xs i (get_or xs j d))
    ∙ (ap (λ x. set (set (map f xs) i x) j (f (get_or xs i d))) (sym (get_or-map f xs j d (f d) lt'))
    ∙ (ap (λ x. set (set (map f xs) i (get_or (map f xs) j (f d))) j x) (sym (get_or-map f xs i d (f d) lt))
    ∙ swap_is (map f xs) i j (f d) (omega (arith, lt, same)) (omega (arith, lt', same))))))

-- two rules change places, and their marks
pub marks_swapped : (rules new : List Rule) (marks after : List ℕ) (i j : ℕ) (d : Rule) → i < length rules → j < length rules → AreMarks (rows_of rules) marks → new ≡ swap rules i j → after ≡ swap marks i j → AreMarks (rows_of new) after
marks_swapped rules new marks after i j d lt lt' marked is moved =
    let same : length (rows_of rules) ≡ length rules = length-map rules row_of in
    moved
    ∙ (ap (λ l. swap l i j) marked
    ∙ sym (ap (λ l. map row_mark (rows_of l)) is
    ∙ (ap (map row_mark) (map_swapped row_of rules i j d lt lt') ∙ map_swapped row_mark (rows_of rules) i j (row_of d) (omega (arith, lt, same)) (omega (arith, lt', same)))))

-- the rules behind a place are dropped, and their marks
pub marks_cut : (rules new : List Rule) (marks after : List ℕ) (n : ℕ) → AreMarks (rows_of rules) marks → new ≡ take n rules → after ≡ take n marks → AreMarks (rows_of new) after
marks_cut rules new marks after n marked is cut =
    cut
    ∙ (ap (take n) marked
    ∙ (take-map row_mark n (rows_of rules) ∙ (ap (map row_mark) (take-map row_of n rules) ∙ sym (ap (λ l. map row_mark (rows_of l)) is))))
