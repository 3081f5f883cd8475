-- How far the front of a text goes.
use Rattle.std.proofs.Common.{◌≡◌, ◌≢◌, ℕ, suc, ◌<◌, ◌≤◌, Bool, true, false, List, [], ◌∷◌, ◌++◌, length, take, drop, cond, refl, arith}
use Rattle.std.specs.List.{list_all}
use Rattle.std.proofs.lemmas.Bool.{and_from, cond_both}
use Rattle.std.proofs.lemmas.List.{take-append-drop, length-take-le}
use Rattle.req_grammar.specs.Tokens.{goes_on}
use Rattle.req_tokens.specs.declared.reach.End.{End}
use Rattle.req_tokens.specs.Reach.{ends, reach, before, after}

pub reach-le-length : (e : End) (xs : List ℕ) → reach e xs ≤ length xs
reach-le-length e [] = omega arith
reach-le-length e (b ∷ xs) =
    cond_both (ends e b xs) 0 (suc (reach e xs)) (λ n. n ≤ suc (length xs)) (λ _. omega arith)
    (λ _. let r : reach e xs ≤ length xs = reach-le-length e xs in omega (arith, r))

pub before-after : (e : End) (xs : List ℕ) → before e xs ++ after e xs ≡ xs
before-after e xs = take-append-drop (reach e xs) xs

pub length-before : (e : End) (xs : List ℕ) → length (before e xs) ≡ reach e xs
length-before e xs = length-take-le (reach e xs) xs (reach-le-length e xs)

-- the byte that ends the front, with what follows it
pub record Stop (e : End) (rest : List ℕ) : Type 0 where
  pub first : ℕ
  pub more : List ℕ
  pub is : rest ≡ first ∷ more
  pub last : ends e first more ≡ true

stop_step : (e : End) (b : ℕ) (xs : List ℕ) (t : Bool) → ends e b xs ≡ t → (after e xs ≢ [] → Stop e (after e xs))
    → drop (cond t 0 (suc (reach e xs))) (b ∷ xs) ≢ [] → Stop e (drop (cond t 0 (suc (reach e xs))) (b ∷ xs))
stop_step e b xs true is later some = record { first = b; more = xs; is = refl; last = is }
stop_step e b xs false is later some = later some

pub stop : (e : End) (xs : List ℕ) → after e xs ≢ [] → Stop e (after e xs)
stop e [] some = absurd (some refl)
stop e (b ∷ xs) some = stop_step e b xs (ends e b xs) refl (stop e xs) some

all_step : (p : ℕ → Bool) (e : End) (b : ℕ) (xs : List ℕ) (t : Bool) → ends e b xs ≡ t → (ends e b xs ≡ false → p b ≡ true) → list_all p (before e xs) ≡ true
    → list_all p (take (cond t 0 (suc (reach e xs))) (b ∷ xs)) ≡ true
all_step p e b xs true is one later = refl
all_step p e b xs false is one later = and_from (p b) (list_all p (before e xs)) (one is) later

-- a test that each byte passes which ends no front
pub all_before : (p : ℕ → Bool) (e : End) → ((b : ℕ) (rest : List ℕ) → ends e b rest ≡ false → p b ≡ true) → (xs : List ℕ) → list_all p (before e xs) ≡ true
all_before p e one [] = refl
all_before p e one (b ∷ xs) = all_step p e b xs (ends e b xs) refl (one b xs) (all_before p e one xs)

none_step : (p : ℕ → Bool) (e : End) (b : ℕ) (xs : List ℕ) (t : Bool) → ends e b xs ≡ t → (ends e b xs ≡ true → p b ≡ false) → goes_on p (after e xs) ≡ false
    → goes_on p (drop (cond t 0 (suc (reach e xs))) (b ∷ xs)) ≡ false
none_step p e b xs true is one later = one is
none_step p e b xs false is one later = later

-- a test that no byte passes which ends a front
pub none_after : (p : ℕ → Bool) (e : End) → ((b : ℕ) (rest : List ℕ) → ends e b rest ≡ true → p b ≡ false) → (xs : List ℕ) → goes_on p (after e xs) ≡ false
none_after p e one [] = refl
none_after p e one (b ∷ xs) = none_step p e b xs (ends e b xs) refl (one b xs) (none_after p e one xs)

some_step : (e : End) (b : ℕ) (xs : List ℕ) (t : Bool) → ends e b xs ≡ t → ends e b xs ≡ false → (p : ℕ → Bool) → p b ≡ true → goes_on p (take (cond t 0 (suc (reach e xs))) (b ∷ xs)) ≡ true
some_step e b xs true is unlast p passes = absurd cc
some_step e b xs false is unlast p passes = passes

-- the first byte of a front that it doesn't end
pub some_before : (e : End) (b : ℕ) (xs : List ℕ) → ends e b xs ≡ false → (p : ℕ → Bool) → p b ≡ true → goes_on p (before e (b ∷ xs)) ≡ true
some_before e b xs is p passes = some_step e b xs (ends e b xs) refl is p passes

-- nothing is left where the length of the rest is 0
pub is_empty : (xs : List ℕ) → length xs ≡ 0 → xs ≡ []
is_empty [] e = refl
is_empty (b ∷ xs) e = absurd (omega (arith, e))

pub has_first : (xs : List ℕ) → xs ≢ [] → 0 < length xs
has_first [] some = absurd (some refl)
has_first (b ∷ xs) some = omega arith
