-- Stored rules that are taken out.
use Rattle.std.proofs.Common.{◌≡◌, ℕ, suc, ◌+◌, ◌<◌, ◌≤◌, length, take, drop, drop-cons, get_or, set, List, [], ◌∷◌, ◌++◌, refl, sym, ap, ◌∙◌, arith}
use Rattle.std.specs.Prelude.{Bool, true, false, cond, not, map}
use Rattle.std.specs.List.{filter, remove, swap}
use Rattle.std.proofs.lemmas.List.{length-map, get_or-map, take-map, drop-map, take-append-drop, map-append, map-set}
use Rattle.std.proofs.lemmas.List.Elements.{filter-append}
use Rattle.std.proofs.lemmas.List.Edits.{swap_is}
use Rattle.std.proofs.lemmas.List.Filters.{FiltersInPlace}
use Rattle.store_model.specs.Raw.{RawRule}
use Rattle.raw_tables.specs.declared.rule.RawRule as code
use Rattle.raw_tables.specs.Raw.{plain_rule, plain_rules}
use Rattle.memory_keeper.specs.Marks.{raw_mark, AreMarks}

first_none : (b : Bool) (x : RawRule) (xs : List RawRule) → cond b (x ∷ xs) xs ≡ [] → (b ≡ false) × (xs ≡ [])
first_none true x xs e = cc
first_none false x xs e = (refl, e)

-- where none passes, all fail
kept_all : (test : RawRule → Bool) (rows : List RawRule) → filter test rows ≡ [] → filter (λ r. not (test r)) rows ≡ rows
kept_all test [] e = refl
kept_all test (x ∷ rows) e =
    let h = first_none (test x) x (filter test rows) e in
    ap (λ b. cond (not b) (x ∷ filter (λ r. not (test r)) rows) (filter (λ r. not (test r)) rows)) h.0 ∙ ap (λ l. x ∷ l) (kept_all test rows h.1)

parts : (rows : List RawRule) (at : ℕ) (d : RawRule) → at < length rows → rows ≡ take at rows ++ (get_or rows at d ∷ drop (at + 1) rows)
parts rows at d lt =
    let next : suc at ≡ at + 1 = omega arith in
    sym (take-append-drop at rows) ∙ (ap (λ l. take at rows ++ l) (drop-cons rows at d lt) ∙ ap (λ k. take at rows ++ (get_or rows at d ∷ drop k rows)) next)

-- what is left of rows around one place, outside of which none passes
around : (test : RawRule → Bool) (rows : List RawRule) (at : ℕ) (d : RawRule) → at < length rows → filter test (take at rows) ≡ [] → filter test (drop (at + 1) rows) ≡ [] →
    filter (λ r. not (test r)) rows ≡ take at rows ++ cond (not (test (get_or rows at d))) (get_or rows at d ∷ drop (at + 1) rows) (drop (at + 1) rows)
around test rows at d lt front rear =
    ap (filter (λ r. not (test r))) (parts rows at d lt)
    ∙ (filter-append (λ r. not (test r)) (take at rows) (get_or rows at d ∷ drop (at + 1) rows)
    ∙ (ap (λ l. l ++ filter (λ r. not (test r)) (get_or rows at d ∷ drop (at + 1) rows)) (kept_all test (take at rows) front)
    ∙ ap (λ l. take at rows ++ cond (not (test (get_or rows at d))) (get_or rows at d ∷ l) l) (kept_all test (drop (at + 1) rows) rear)))

-- the rule there is taken out
pub removed_at : (test : RawRule → Bool) (rules : List code.RawRule) (at : ℕ) (d : code.RawRule) → at < length rules → filter test (take at (plain_rules rules)) ≡ [] → filter test (drop (at + 1) (plain_rules rules)) ≡ [] →
    test (plain_rule (get_or rules at d)) ≡ true → plain_rules (remove rules at) ≡ filter (λ r. not (test r)) (plain_rules rules)
removed_at test rules at d lt front rear passes =
    let lt' : at < length (plain_rules rules) = omega (arith, lt, length-map rules plain_rule) in
    let next : suc at ≡ at + 1 = omega arith in
    let here : test (get_or (plain_rules rules) at (plain_rule d)) ≡ true = ap test (get_or-map plain_rule rules at d (plain_rule d) lt) ∙ passes in
    map-append plain_rule (take at rules) (drop (suc at) rules)
    ∙ (ap (λ l. l ++ plain_rules (drop (suc at) rules)) (sym (take-map plain_rule at rules))
    ∙ (ap (λ l. take at (plain_rules rules) ++ l) (sym (drop-map plain_rule (suc at) rules))
    ∙ (ap (λ k. take at (plain_rules rules) ++ drop k (plain_rules rules)) next
    ∙ sym (around test (plain_rules rules) at (plain_rule d) lt' front rear
    ∙ ap (λ b. take at (plain_rules rules) ++ cond (not b) (get_or (plain_rules rules) at (plain_rule d) ∷ drop (at + 1) (plain_rules rules)) (drop (at + 1) (plain_rules rules))) here))))

-- it stays
pub kept_at : (test : RawRule → Bool) (rules : List code.RawRule) (at : ℕ) (d : code.RawRule) → at < length rules → filter test (take at (plain_rules rules)) ≡ [] → filter test (drop (at + 1) (plain_rules rules)) ≡ [] →
    test (plain_rule (get_or rules at d)) ≡ false → plain_rules rules ≡ filter (λ r. not (test r)) (plain_rules rules)
kept_at test rules at d lt front rear fails =
    let lt' : at < length (plain_rules rules) = omega (arith, lt, length-map rules plain_rule) in
    let here : test (get_or (plain_rules rules) at (plain_rule d)) ≡ false = ap test (get_or-map plain_rule rules at d (plain_rule d) lt) ∙ fails in
    parts (plain_rules rules) at (plain_rule d) lt'
    ∙ sym (around test (plain_rules rules) at (plain_rule d) lt' front rear
    ∙ ap (λ b. take at (plain_rules rules) ++ cond (not b) (get_or (plain_rules rules) at (plain_rule d) ∷ drop (at + 1) (plain_rules rules)) (drop (at + 1) (plain_rules rules))) here)

-- rules of which none passes
all_kept : (test : RawRule → Bool) (rules : List code.RawRule) → filter test (plain_rules rules) ≡ [] → filter (λ x. not (test (plain_rule x))) rules ≡ rules
all_kept test [] e = refl
all_kept test (x ∷ rules) e =
    let h = first_none (test (plain_rule x)) (plain_rule x) (filter test (plain_rules rules)) e in
    ap (λ b. cond (not b) (x ∷ filter (λ y. not (test (plain_rule y))) rules) (filter (λ y. not (test (plain_rule y))) rules)) h.0 ∙ ap (λ l. x ∷ l) (all_kept test rules h.1)

-- where none passes before a place, the rules before it are kept
pub kept_before : (test : RawRule → Bool) (rules : List code.RawRule) (from : ℕ) → from ≤ length rules → filter test (take from (plain_rules rules)) ≡ [] → FiltersInPlace (λ x. not (test (plain_rule x))) rules rules from from
kept_before test rules from within front = record {
  front = sym (all_kept test (take from rules) (ap (filter test) (sym (take-map plain_rule from rules)) ∙ front));
  rest = refl;
  behind = omega arith;
  within = within;
  long = refl;
}

map_swapped : {X Y : Type 0} (f : X → Y) (xs : List X) (i j : ℕ) (d : X) → i < length xs → j < length xs → map f (swap xs i j) ≡ swap (map f xs) i j
map_swapped f xs i j d lt lt' =
    let same : length (map f xs) ≡ length xs = length-map xs f in
    ap (map f) (sym (swap_is xs i j d lt lt'))
    ∙ (map-set f (set xs i (get_or xs j d)) j (get_or xs i d)
    ∙ (ap (λ l. set l j (f (get_or xs i d))) (map-set f xs i (get_or xs j d))
    ∙ (ap (λ x. set (set (map f xs) i x) j (f (get_or xs i d))) (sym (get_or-map f xs j d (f d) lt'))
    ∙ (ap (λ x. set (set (map f xs) i (get_or (map f xs) j (f d))) j x) (sym (get_or-map f xs i d (f d) lt))
    ∙ swap_is (map f xs) i j (f d) (omega (arith, lt, same)) (omega (arith, lt', same))))))

-- two rules change places, and their marks
pub marks_swapped : (rules new : List code.RawRule) (marks after : List ℕ) (i j : ℕ) (d : code.RawRule) → i < length rules → j < length rules → AreMarks (plain_rules rules) marks → new ≡ swap rules i j → after ≡ swap marks i j → AreMarks (plain_rules new) after
marks_swapped rules new marks after i j d lt lt' marked is moved =
    let same : length (plain_rules rules) ≡ length rules = length-map rules plain_rule in
    moved
    ∙ (ap (λ l. swap l i j) marked
    ∙ sym (ap (λ l. map raw_mark (plain_rules l)) is
    ∙ (ap (map raw_mark) (map_swapped plain_rule rules i j d lt lt') ∙ map_swapped raw_mark (plain_rules rules) i j (plain_rule d) (omega (arith, lt, same)) (omega (arith, lt', same)))))

-- the rules behind a place are dropped, and their marks
pub marks_cut : (rules new : List code.RawRule) (marks after : List ℕ) (n : ℕ) → AreMarks (plain_rules rules) marks → new ≡ take n rules → after ≡ take n marks → AreMarks (plain_rules new) after
marks_cut rules new marks after n marked is cut =
    cut
    ∙ (ap (take n) marked
    ∙ (take-map raw_mark n (plain_rules rules) ∙ (ap (map raw_mark) (take-map plain_rule n rules) ∙ sym (ap (λ l. map raw_mark (plain_rules l)) is))))
