-- The part of a type, found from the front of the index.
use Rattle.std.proofs.Common.{◌≡◌, ℕ, zero, suc, ◌+◌, ◌<◌, ◌≤◌, Bool, true, false, ◌==◌, nat_eq, cond, List, Option, None, Some, option_map, refl, sym, ap, ◌∙◌, arith, ◌⊎◌, inl, inr}
use Rattle.std.proofs.lemmas.Bool.Decides.{nat_tests}
use Rattle.std.specs.List.{find, range_with_len}
use Rattle.std.specs.Prelude.{MatchOption}
use denote.Bor.{Bor}
use Rattle.cs_blob.specs.SuperBlobs.{IsSuperBlob, IsPartOf, count_of, kind_at, part_at}
use Rattle.code_directory.specs.Signatures.{part_of}

when_true : {A : Type 0} (t : Bool) (x y : A) → t ≡ true → cond t x y ≡ x
when_true true x y h = refl
when_true false x y h = cc

when_false : {A : Type 0} (t : Bool) (x y : A) → t ≡ false → cond t x y ≡ y
when_false true x y h = cc
when_false false x y h = refl

abbrev some_ℕ : ℕ → Option ℕ
some_ℕ n = Some n

abbrev some_bytes : List ℕ → Option (List ℕ)
some_bytes bytes = Some bytes

eq_or_less_when : (t : Bool) (a j : ℕ) → nat_eq a j ≡ t → a ≤ j → (a ≡ j) ⊎ (a < j)
eq_or_less_when true a j e h = inl (grind (arith, nat_tests))
eq_or_less_when false a j e h = inr (grind (arith, nat_tests))

eq_or_less : (a j : ℕ) → a ≤ j → (a ≡ j) ⊎ (a < j)
eq_or_less a j h = eq_or_less_when (nat_eq a j) a j refl h

-- no number of a row passes
find_none : (test : ℕ → Bool) (a n : ℕ) → ((i : ℕ) → a ≤ i → i < a + n → test i ≡ false) → find test (range_with_len a n) ≡ None
find_none test a zero h = refl
find_none test a (suc n) h =
    when_false (test a) _ _ (h a (omega arith) (omega arith)) ∙ find_none test (a + 1) n (λ i from to. h i (omega arith) (omega arith))

-- the first that passes
find_some : (test : ℕ → Bool) (a n j : ℕ) → a ≤ j → j < a + n → test j ≡ true → ((i : ℕ) → a ≤ i → i < j → test i ≡ false) → find test (range_with_len a n) ≡ Some j
find_some test a zero j from to h before = absurd (omega arith)
find_some test a (suc n) j from to h before =
    elim (eq_or_less a j from) [
      | inl same ↦ when_true (test a) _ _ (ap test same ∙ h) ∙ ap (λ (k : ℕ). some_ℕ k) same
      | inr less ↦ when_false (test a) _ _ (before a (omega arith) less) ∙ find_some test (a + 1) n j (omega arith) (omega arith) h (λ i low high. before i (omega arith) high)
    ]

no_test : (t : Bool) → (t ≡ true → ⊥) → t ≡ false
no_test true h = absurd (h refl)
no_test false h = refl

equal_when : (a b : ℕ) → (a == b) ≡ true → a ≡ b
equal_when a b h = grind (arith, nat_tests)

when_equal : (a b : ℕ) → a ≡ b → (a == b) ≡ true
when_equal a b h = grind (arith, nat_tests)

-- a part by the index is the part that is found
pub part_none : (whole : List ℕ) (kind : ℕ) → ((part : List ℕ) → IsPartOf whole kind part → ⊥) → part_of whole kind ≡ None
part_none whole kind h =
    ap (option_map (λ index. part_at whole index)) (find_none (λ index. kind_at whole index == kind) 0 (count_of whole)
    (λ i from to. no_test (kind_at whole i == kind) (λ same. h (part_at whole i) (i, omega arith, equal_when _ _ same, refl))))

pub part_some : (magic : ℕ) (whole : List ℕ) (kind : ℕ) (part : List ℕ) → IsSuperBlob magic whole → IsPartOf whole kind part → part_of whole kind ≡ Some part
part_some magic whole kind part blob p =
    ap (option_map (λ index. part_at whole index)) (find_some (λ index. kind_at whole index == kind) 0 (count_of whole) p.0 (omega arith) (omega (arith, p.1)) (when_equal _ _ p.2)
    (λ i from to. no_test (kind_at whole i == kind) (λ same. (blob.fine p.0 p.1).own_kind i to (equal_when _ _ same ∙ sym p.2))))
    ∙ ap some_bytes (sym p.3)

-- the same of the part that a call returns
pub part_is : (magic : ℕ) (whole : List ℕ) (kind : ℕ) (result : Option (Bor (List ℕ))) → IsSuperBlob magic whole
    → MatchOption result ((part : List ℕ) → IsPartOf whole kind part → ⊥) (λ part. IsPartOf whole kind part.now)
    → MatchOption result (part_of whole kind ≡ None) (λ part. part_of whole kind ≡ Some part.now)
part_is magic whole kind None blob h = part_none whole kind h
part_is magic whole kind (Some part) blob h = part_some magic whole kind part.now blob h
