-- Rows that are told apart by their ids stand by rank in one order.
use Rattle.std.proofs.Common.{◌≡◌, ℕ, ◌+◌, ◌<◌, List, [], ◌∷◌, get_or, refl, sym, ap, ◌∙◌, subst, arith, inl, inr}
use Rattle.std.specs.Prelude.{All, AllPairs, Contains, Bool, true, false, cond, ◌==◌}
use Rattle.std.specs.List.{AllByRecursion, sum_by}
use Rattle.std.proofs.lemmas.Int.{ints}
use Rattle.std.proofs.lemmas.Bool.{cases_order}
use Rattle.std.proofs.lemmas.Bool.Decides.{nat_tests}
use Rattle.std.proofs.lemmas.List.{get_or_default}
use Rattle.std.proofs.lemmas.List.Elements.{All-contains_itself, recursion_from_All}
use Rattle.std.proofs.lemmas.List.Kept.{AllPairs-filter}
use Rattle.std.proofs.lemmas.List.Sorted.{All-permutation, sum_by-IsPermutation}
use Rattle.std.proofs.lemmas.List.Sums.{sum_by-cons}
use Rattle.policy_model.specs.Rules.{Row, Rank, Kind, same_kind, rank_of, Before}
use Rattle.policy_model.specs.Tables.{Tables}
use Rattle.authority_table.specs.Snapshot.{of_kind, IsByRank, IsSnapshot}
use Rattle.rule_list.specs.Laws.{OrderIsOne}

-- ids rise from row to row
abbrev Rising : List Row → Type 0
Rising rows = AllPairs (λ (a b : Row). a.id < b.id) rows

-- how many rows have the id
abbrev one_if : ℕ → Row → ℕ
one_if n r = cond (r.id == n) 1 0

abbrev count : ℕ → List Row → ℕ
count n rows = sum_by (one_if n) rows

count_first : (r : Row) (rows : List Row) → 0 < count r.id (r ∷ rows)
count_first r rows = grind (arith, nat_tests, sum_by-cons (one_if r.id) r rows)

-- where a row with the id is counted, one has it
counted_has : (n : ℕ) (P : Row → Type 0) (rows : List Row) → AllByRecursion P rows → 0 < count n rows → (r : Row) × (r.id ≡ n) × P r
counted_has n P [] all more = absurd (omega (arith, more))
counted_has n P (r ∷ rows) all more = at (r.id == n) refl (counted_has n P rows all.1)
  where
    at : (b : Bool) → (r.id == n) ≡ b → (0 < count n rows → (s : Row) × (s.id ≡ n) × P s) → (s : Row) × (s.id ≡ n) × P s
    at true e rest = (r, grind (arith, nat_tests, e), all.0)
    at false e rest =
        let none : one_if n r ≡ 0 = ap (λ b. cond b 1 0) e in
        let cons = sum_by-cons (one_if n) r rows in
        rest (omega (arith, none, cons, more))

at_place : (rows : List Row) (r : Row) (k : ℕ) (d : Row) (h : Contains rows r) → h.0 ≡ k → get_or rows k d ≡ r
at_place rows r k d h e = subst (λ i. get_or rows i d ≡ r) e (get_or_default rows h.0 d r h.1 ∙ h.2)

not_above : (rows : List Row) (a b : Row) → Rising rows → (x : Contains rows a) (y : Contains rows b) → a.id ≡ b.id → x.0 < y.0 → ⊥
not_above rows a b rising x y same lt =
    let less = rising x.0 y.0 a lt y.1 in
    let first = ap (λ (r : Row). r.id) (at_place rows a x.0 a x refl) in
    let second = ap (λ (r : Row). r.id) (at_place rows b y.0 a y refl) in
    omega (arith, less, first, second, same)

-- an id is that of one row
one_of_id : (rows : List Row) (a b : Row) → Rising rows → Contains rows a → Contains rows b → a.id ≡ b.id → a ≡ b
one_of_id rows a b rising x y same =
    elim (cases_order x.0 y.0) as (λ _. a ≡ b) [
      | inl place ↦ sym (at_place rows a y.0 a x place) ∙ at_place rows b y.0 a y refl
      | inr other ↦ elim other as (λ _. a ≡ b) [
        | inl lt ↦ absurd (not_above rows a b rising x y same lt)
        | inr gt ↦ absurd (not_above rows b a rising y x (sym same) gt)
      ]
    ]

never_itself : (x : Rank) → Before x x → ⊥
never_itself x h = grind (arith, ints, h)

one_ahead : (a b : Rank) → a.id < b.id → (Before a b → ⊥) → (Before b a → ⊥) → ⊥
one_ahead a b lt h k = grind (arith, ints, lt, h, k)

-- a row that stands in the rows and isn't tried before x
abbrev IsBehind : List Row → Row → Row → Type 0
IsBehind among x r = Contains among r × (Before (rank_of r) (rank_of x) → ⊥)

both : (among : List Row) (x : Row) (rows : List Row) → AllByRecursion (Contains among) rows → AllByRecursion (λ r. Before (rank_of r) (rank_of x) → ⊥) rows → AllByRecursion (IsBehind among x) rows
both among x [] h k = tt
both among x (r ∷ rows) h k = ((h.0, k.0), both among x rows h.1 k.1)

all_behind : (among : List Row) (x : Row) (xs : List Row) → AllByRecursion (Contains among) (x ∷ xs) → IsByRank (x ∷ xs) → AllByRecursion (IsBehind among x) (x ∷ xs)
all_behind among x xs h ranked = ((h.0, never_itself (rank_of x)), both among x xs h.1 ranked.0)

not_before : (among : List Row) (x y : Row) (xs ys : List Row) → Rising among → AllByRecursion (Contains among) (x ∷ xs) → Contains among y → IsByRank (x ∷ xs)
    → count y.id (x ∷ xs) ≡ count y.id (y ∷ ys) → Before (rank_of y) (rank_of x) → ⊥
not_before among x y xs ys rising h there ranked same before =
    let first = count_first y ys in
    let it = counted_has y.id (IsBehind among x) (x ∷ xs) (all_behind among x xs h ranked) (omega (arith, same, first)) in
    let is : it.0 ≡ y = one_of_id among it.0 y rising it.2.0 there it.1 in
    it.2.1 (subst (λ r. Before (rank_of r) (rank_of x)) (sym is) before)

same_first : (among : List Row) (x y : Row) (xs ys : List Row) → Rising among → AllByRecursion (Contains among) (x ∷ xs) → AllByRecursion (Contains among) (y ∷ ys)
    → IsByRank (x ∷ xs) → IsByRank (y ∷ ys) → ((n : ℕ) → count n (x ∷ xs) ≡ count n (y ∷ ys)) → x ≡ y
same_first among x y xs ys rising h k first second same =
    let not_yx = not_before among x y xs ys rising h k.0 first (same y.id) in
    let not_xy = not_before among y x ys xs rising k h.0 second (sym (same x.id)) in
    elim (cases_order x.id y.id) as (λ _. x ≡ y) [
      | inl id ↦ one_of_id among x y rising h.0 k.0 id
      | inr other ↦ elim other as (λ _. x ≡ y) [
        | inl lt ↦ absurd (one_ahead (rank_of x) (rank_of y) lt not_xy not_yx)
        | inr gt ↦ absurd (one_ahead (rank_of y) (rank_of x) gt not_yx not_xy)
      ]
    ]

fewer : (n : ℕ) (x y : Row) (xs ys : List Row) → x ≡ y → count n (x ∷ xs) ≡ count n (y ∷ ys) → count n xs ≡ count n ys
fewer n x y xs ys is same =
    let heads = ap (one_if n) is in
    omega (arith, heads, same, sum_by-cons (one_if n) x xs, sum_by-cons (one_if n) y ys)

one_order : (among xs ys : List Row) → Rising among → AllByRecursion (Contains among) xs → AllByRecursion (Contains among) ys → IsByRank xs → IsByRank ys
    → ((n : ℕ) → count n xs ≡ count n ys) → xs ≡ ys
one_order among [] [] rising h k first second same = refl
one_order among [] (y ∷ ys) rising h k first second same = absurd (omega (arith, same y.id, count_first y ys))
one_order among (x ∷ xs) [] rising h k first second same = absurd (omega (arith, same x.id, count_first x xs))
one_order among (x ∷ xs) (y ∷ ys) rising h k first second same =
    let is = same_first among x y xs ys rising h k first second same in
    ap (λ r. r ∷ xs) is ∙ ap (λ rows. y ∷ rows) (one_order among xs ys rising h.1 k.1 first.1 second.1 (λ n. fewer n x y xs ys is (same n)))

pub order_is_one : OrderIsOne
order_is_one t kind a b own first second =
    let among = of_kind kind t.rows in
    one_order among a b (AllPairs-filter (λ (x y : Row). x.id < y.id) (λ r. same_kind r.kind kind) t.rows own.apart)
    (recursion_from_All (Contains among) a (All-permutation (Contains among) among a first.same (All-contains_itself among)))
    (recursion_from_All (Contains among) b (All-permutation (Contains among) among b second.same (All-contains_itself among)))
    first.ranked second.ranked
    (λ n. sum_by-IsPermutation (one_if n) among a first.same ∙ sym (sum_by-IsPermutation (one_if n) among b second.same))
