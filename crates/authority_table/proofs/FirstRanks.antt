-- The rank of the row that is tried first, where one more row comes.
use Rattle.std.proofs.Common.{◌≡◌, List, [], ◌∷◌, ◌++◌, refl, sym, ap, ◌∙◌, arith}
use Rattle.std.specs.Prelude.{Bool, true, false, Option, Some, None, option_map, if◌then◌else◌}
use Rattle.std.proofs.lemmas.Int.{ints}
use Rattle.std.proofs.lemmas.Bool.Decides.{nat_tests}
use Rattle.policy_model.specs.Rules.{Row, Rank, rank_of, is_before, sooner, first}
use Rattle.authority_table.proofs.Ranked.{ahead_through}

-- of a rank that was found before and one more, the one that is tried first
abbrev pub joined : Option Rank → Rank → Rank
joined None r = r
joined (Some a) r = if is_before r a then r else a

abbrev sooner_rank : Rank → Option Rank → Rank
sooner_rank a None = a
sooner_rank a (Some b) = if is_before b a then b else a

rank_if : (b : Bool) (s x : Row) → rank_of (if b then s else x) ≡ (if b then rank_of s else rank_of x)
rank_if true s x = refl
rank_if false s x = refl

rank_of_sooner : (x : Row) (o : Option Row) → rank_of (sooner x o) ≡ sooner_rank (rank_of x) (option_map rank_of o)
rank_of_sooner x None = refl
rank_of_sooner x (Some s) = rank_if (is_before (rank_of s) (rank_of x)) s x

through : (a b r : Rank) → is_before r b ≡ true → is_before b a ≡ true → is_before r a ≡ false → ⊥
through a b r h k l = grind (arith, ints, nat_tests, h, k, l)

one_way : {b : Bool} → b ≡ false → b ≡ true → ⊥
one_way h k = cc

by_tests : (a b r : Rank) (p q s : Bool) → is_before r b ≡ p → is_before b a ≡ q → is_before r a ≡ s →
    (if is_before (if p then r else b) a then (if p then r else b) else a) ≡ (if is_before r (if q then b else a) then r else (if q then b else a))
by_tests a b r true true true h k l = rw (l, h) refl
by_tests a b r true true false h k l = absurd (through a b r h k l)
by_tests a b r true false s h k l = refl
by_tests a b r false true s h k l = rw (k, h) refl
by_tests a b r false false true h k l = absurd (one_way (ahead_through r b a h k) l)
by_tests a b r false false false h k l = rw (k, l) refl

later_first : (a : Rank) (o : Option Rank) (r : Rank) → sooner_rank a (Some (joined o r)) ≡ joined (Some (sooner_rank a o)) r
later_first a None r = refl
later_first a (Some b) r =
    let e : (if is_before (if is_before r b then r else b) a then (if is_before r b then r else b) else a) ≡ (if is_before r (if is_before b a then b else a) then r else (if is_before b a then b else a)) =
    by_tests a b r (is_before r b) (is_before b a) (is_before r a) refl refl refl in
    e

first_cons : (b : Bool) (x : Row) (f o : Option Row) (r : Rank) → option_map rank_of f ≡ Some (joined (option_map rank_of o) r) →
    option_map rank_of (if b then Some (sooner x f) else f) ≡ Some (joined (option_map rank_of (if b then Some (sooner x o) else o)) r)
first_cons true x f o r e =
    ap Some (rank_of_sooner x f ∙ ap (sooner_rank (rank_of x)) e ∙ later_first (rank_of x) (option_map rank_of o) r ∙ ap (λ y. joined (Some y) r) (sym (rank_of_sooner x o)))
first_cons false x f o r e = e

-- a row that passes comes behind
pub first_last : (test : Row → Bool) (rows : List Row) (r : Row) → test r ≡ true →
    option_map rank_of (first test (rows ++ r ∷ [])) ≡ Some (joined (option_map rank_of (first test rows)) (rank_of r))
first_last test [] r t = ap (λ b. option_map rank_of (if b then Some (sooner r None) else None)) t
first_last test (x ∷ rows) r t = first_cons (test x) x (first test (rows ++ r ∷ [])) (first test rows) (rank_of r) (first_last test rows r t)

-- a row that doesn't pass
pub first_passed : (test : Row → Bool) (rows : List Row) (r : Row) → test r ≡ false → first test (rows ++ r ∷ []) ≡ first test rows
first_passed test [] r t = ap (λ b. if b then Some (sooner r None) else None) t
first_passed test (x ∷ rows) r t = ap (λ o. if test x then Some (sooner x o) else o) (first_passed test rows r t)

-- of a rank that is the first so far, and that of a row that passes
pub joined_is : (test : Row → Bool) (rows : List Row) (row : Row) (r : Rank) (o : Option Rank) → test row ≡ true → rank_of row ≡ r → o ≡ option_map rank_of (first test rows) →
    Some (joined o r) ≡ option_map rank_of (first test (rows ++ row ∷ []))
joined_is test rows row r o passes rank h = sym (first_last test rows row passes ∙ (ap (λ x. Some (joined x (rank_of row))) (sym h) ∙ ap (λ x. Some (joined o x)) rank))
