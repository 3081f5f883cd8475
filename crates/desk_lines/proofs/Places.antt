-- A list that goes on by one more at its end, and places in it.
use Rattle.std.proofs.Common.{◌≡◌, ℕ, zero, suc, ◌+◌, ◌<◌, ◌≤◌, nat_lt, List, [], ◌∷◌, ◌++◌, length, take, slice_get, slice_index_or, Bool, true, false, not, cond, Some, None, refl, sym, ◌∙◌, ap, subst, arith}
use Rattle.std.proofs.lemmas.Bool.Decides.{nat_tests}
use Rattle.std.proofs.lemmas.List.Folds.{find_at}
use Rattle.std.specs.List.{find, position, position_or_len, remove}
use Rattle.session_model.specs.Slots.{but_first}

pub get_more : {X : Type 0} (xs : List X) (k : ℕ) (x e : X) → slice_get xs k ≡ Some x → slice_get (xs ++ e ∷ []) k ≡ Some x
get_more [] k x e is = cc
get_more (y ∷ xs) zero x e is = is
get_more (y ∷ xs) (suc k) x e is = get_more xs k x e is

pub take_more : {X : Type 0} (xs : List X) (k : ℕ) (x e : X) → slice_get xs k ≡ Some x → take k (xs ++ e ∷ []) ≡ take k xs
take_more [] k x e is = cc
take_more (y ∷ xs) zero x e is = refl
take_more (y ∷ xs) (suc k) x e is = ap (λ zs. y ∷ zs) (take_more xs k x e is)

pub below : {X : Type 0} (xs : List X) (k : ℕ) (x : X) → slice_get xs k ≡ Some x → k < length xs
below [] k x is = cc
below (y ∷ xs) zero x is = omega arith
below (y ∷ xs) (suc k) x is = let less : k < length xs = below xs k x is in omega (arith, less)

pub get_last : {X : Type 0} (xs : List X) (e : X) → slice_get (xs ++ e ∷ []) (length xs) ≡ Some e
get_last [] e = refl
get_last (y ∷ xs) e = get_last xs e

pub take_last : {X : Type 0} (xs : List X) (e : X) → take (length xs) (xs ++ e ∷ []) ≡ xs
take_last [] e = refl
take_last (y ∷ xs) e = ap (λ zs. y ∷ zs) (take_last xs e)

pub get_past : {X : Type 0} (xs : List X) (i : ℕ) → length xs ≤ i → slice_get xs i ≡ None
get_past [] i le = refl
get_past (x ∷ xs) zero le = absurd (omega (arith, le))
get_past (x ∷ xs) (suc i) le = get_past xs i (omega (arith, le))

index_get : {X : Type 0} (xs : List X) (i : ℕ) (d : X) → i < length xs → slice_get xs i ≡ Some (slice_index_or xs i d)
index_get [] i d less = absurd (omega (arith, less))
index_get (x ∷ xs) zero d less = refl
index_get (x ∷ xs) (suc i) d less = index_get xs i d (omega (arith, less))

some_place : (b : Bool) (at place : ℕ) → cond b (Some place) None ≡ Some at → (b ≡ true) × (place ≡ at)
some_place true at place is = (refl, cc)
some_place false at place is = cc

none_place : (b : Bool) (place : ℕ) → cond b (Some place) None ≡ None → b ≡ false
none_place true place is = cc
none_place false place is = refl

-- what is found at its place is the first
pub found_at : {X : Type 0} (test : X → Bool) (xs : List X) (at : ℕ) (x : X) → position test xs ≡ Some at → x ≡ slice_index_or xs at x → Some x ≡ find test xs
found_at test xs at x is value =
    let both : (nat_lt (position_or_len test xs) (length xs) ≡ true) × (position_or_len test xs ≡ at) = some_place (nat_lt (position_or_len test xs) (length xs)) at (position_or_len test xs) is in
    let yes : nat_lt (position_or_len test xs) (length xs) ≡ true = both.0 in
    let inside : position_or_len test xs < length xs = grind (arith, nat_tests, yes) in
    let at_place : slice_get xs at ≡ Some (slice_index_or xs at x) = subst (λ i. slice_get xs i ≡ Some (slice_index_or xs i x)) both.1 (index_get xs (position_or_len test xs) x inside) in
    sym (find_at test xs ∙ ap (slice_get xs) both.1 ∙ at_place ∙ ap Some (sym value))

-- where no place is found there is none
pub none_at : {X : Type 0} (test : X → Bool) (xs : List X) → position test xs ≡ None → None ≡ find test xs
none_at test xs is =
    let no = none_place (nat_lt (position_or_len test xs) (length xs)) (position_or_len test xs) is in
    let past : length xs ≤ position_or_len test xs = grind (arith, nat_tests, no) in
    sym (find_at test xs ∙ get_past xs (position_or_len test xs) past)

removes_by : {X : Type 0} (test : X → Bool) (x : X) (xs : List X) (b : Bool) → test x ≡ b → remove xs (position_or_len test xs) ≡ but_first test xs
    → remove (x ∷ xs) (cond (not b) (1 + position_or_len test xs) 0) ≡ cond b xs (x ∷ but_first test xs)
removes_by test x xs true is rest = refl
removes_by test x xs false is rest =
    let one : 1 + position_or_len test xs ≡ suc (position_or_len test xs) = omega arith in
    rw one (ap (λ zs. x ∷ zs) rest)

-- what is left without the first is the list without its place
pub removes : {X : Type 0} (test : X → Bool) (xs : List X) → remove xs (position_or_len test xs) ≡ but_first test xs
removes test [] = refl
removes test (x ∷ xs) = removes_by test x xs (test x) refl (removes test xs)

pub left_at : {X : Type 0} (test : X → Bool) (xs : List X) (at : ℕ) → position test xs ≡ Some at → remove xs at ≡ but_first test xs
left_at test xs at is =
    let both : (nat_lt (position_or_len test xs) (length xs) ≡ true) × (position_or_len test xs ≡ at) = some_place (nat_lt (position_or_len test xs) (length xs)) at (position_or_len test xs) is in
    ap (remove xs) (sym both.1) ∙ removes test xs
