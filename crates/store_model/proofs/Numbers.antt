-- Kinds, flags and ends as stored numbers, and back.
use Rattle.std.proofs.Common.{◌≡◌, ℕ, ◌≤◌, ℤ, refl, sym, ap, subst, arith, inl, inr, Option, Some, None, true, false}
use Rattle.std.specs.Prelude.{Bool, cond, ◌||◌, ◌⊎◌, pos, negsuc, ◌≤ℤ◌, unsigned_abs, option_map, IfSome}
use Rattle.std.specs.Ordering.{int_eq}
use Rattle.std.proofs.lemmas.Int.{ints}
use Rattle.policy_model.specs.declared.limits.TheConstants.{GREATEST_MOMENT}
use Rattle.policy_model.specs.Rules.{Kind, execute, install, document}
use Rattle.store_model.specs.Stored.{kind_number, bool_number, flags_number}
use Rattle.store_model.specs.Accepted.{IsWithin, AreFlags}

-- the kind of a stored number
abbrev pub kind_back : ℤ → Kind
kind_back z = cond (int_eq z (pos 1)) execute (cond (int_eq z (pos 2)) install document)

-- yes, for 1
abbrev pub bool_back : ℤ → Bool
bool_back z = int_eq z (pos 1)

-- whether flags have the 2
abbrev pub default_back : ℤ → Bool
default_back z = int_eq z (pos 2) || int_eq z (pos 6)

-- whether flags have the 4
abbrev pub inhibit_back : ℤ → Bool
inhibit_back z = int_eq z (pos 4) || int_eq z (pos 6)

-- from what is meant to what is stored, and back

pub kind_returns : (k : Kind) → kind_back (kind_number k) ≡ k
kind_returns execute = refl
kind_returns install = refl
kind_returns document = refl

pub bool_returns : (b : Bool) → bool_back (bool_number b) ≡ b
bool_returns true = refl
bool_returns false = refl

pub default_returns : (d i : Bool) → default_back (flags_number d i) ≡ d
default_returns true true = refl
default_returns true false = refl
default_returns false true = refl
default_returns false false = refl

pub inhibit_returns : (d i : Bool) → inhibit_back (flags_number d i) ≡ i
inhibit_returns true true = refl
inhibit_returns true false = refl
inhibit_returns false true = refl
inhibit_returns false false = refl

pub end_returns : (o : Option ℕ) → option_map unsigned_abs (option_map pos o) ≡ o
end_returns None = refl
end_returns (Some m) = refl

-- from what is stored and accepted to what is meant, and back

pub not_below : (z : ℤ) → pos 0 ≤ℤ z → pos (unsigned_abs z) ≡ z
not_below (pos n) h = refl
not_below (negsuc n) h = absurd (grind (arith, ints, h))

pub within_not_below : (most : ℕ) (z : ℤ) → IsWithin 0 most z → pos (unsigned_abs z) ≡ z
within_not_below most z h = not_below z h.0

one_of_two : (n : ℕ) → n ≤ 1 → (n ≡ 0) ⊎ (n ≡ 1)
one_of_two n h = grind (arith, h)

one_of_three : (n : ℕ) → 1 ≤ n → n ≤ 3 → (n ≡ 1) ⊎ ((n ≡ 2) ⊎ (n ≡ 3))
one_of_three n h k = grind (arith, h, k)

pub bool_stays : (z : ℤ) → IsWithin 0 1 z → bool_number (bool_back z) ≡ z
bool_stays (pos n) h = elim (one_of_two n (grind (arith, ints, h))) as (λ _. bool_number (bool_back (pos n)) ≡ pos n) [
  | inl e ↦ subst (λ m. bool_number (bool_back (pos m)) ≡ pos m) (sym e) refl
  | inr e ↦ subst (λ m. bool_number (bool_back (pos m)) ≡ pos m) (sym e) refl
]
bool_stays (negsuc n) h = absurd (grind (arith, ints, h))

pub kind_stays : (z : ℤ) → IsWithin 1 3 z → kind_number (kind_back z) ≡ z
kind_stays (pos n) h = elim (one_of_three n (grind (arith, ints, h)) (grind (arith, ints, h))) as (λ _. kind_number (kind_back (pos n)) ≡ pos n) [
  | inl e ↦ subst (λ m. kind_number (kind_back (pos m)) ≡ pos m) (sym e) refl
  | inr other ↦ elim other as (λ _. kind_number (kind_back (pos n)) ≡ pos n) [
    | inl e ↦ subst (λ m. kind_number (kind_back (pos m)) ≡ pos m) (sym e) refl
    | inr e ↦ subst (λ m. kind_number (kind_back (pos m)) ≡ pos m) (sym e) refl
  ]
]
kind_stays (negsuc n) h = absurd (grind (arith, ints, h))

-- flags that were taken apart and put together
abbrev pub flags_again : ℤ → ℤ
flags_again z = flags_number (default_back z) (inhibit_back z)

pub flags_stay : (z : ℤ) → AreFlags z → flags_again z ≡ z
flags_stay z (inl e) = subst (λ x. flags_again x ≡ x) (sym e) refl
flags_stay z (inr (inl e)) = subst (λ x. flags_again x ≡ x) (sym e) refl
flags_stay z (inr (inr (inl e))) = subst (λ x. flags_again x ≡ x) (sym e) refl
flags_stay z (inr (inr (inr e))) = subst (λ x. flags_again x ≡ x) (sym e) refl

pub end_stays : (o : Option ℤ) → IfSome o (IsWithin 0 GREATEST_MOMENT) → option_map pos (option_map unsigned_abs o) ≡ o
end_stays None h = refl
end_stays (Some z) h = ap Some (within_not_below GREATEST_MOMENT z h)

-- numbers that are within their bounds

pub within : (least most n : ℕ) → least ≤ n → n ≤ most → IsWithin least most (pos n)
within least most n h k = grind (arith, ints, h, k)

pub kind_within : (k : Kind) → IsWithin 1 3 (kind_number k)
kind_within execute = within 1 3 1 (omega arith) (omega arith)
kind_within install = within 1 3 2 (omega arith) (omega arith)
kind_within document = within 1 3 3 (omega arith) (omega arith)

pub bool_within : (b : Bool) → IsWithin 0 1 (bool_number b)
bool_within true = within 0 1 1 (omega arith) (omega arith)
bool_within false = within 0 1 0 (omega arith) (omega arith)

pub end_within : (o : Option ℕ) → IfSome o (λ m. m ≤ GREATEST_MOMENT) → IfSome (option_map pos o) (IsWithin 0 GREATEST_MOMENT)
end_within None h = tt
end_within (Some m) h = within 0 GREATEST_MOMENT m (omega arith) h

pub are_flags : (d i : Bool) → AreFlags (flags_number d i)
are_flags true true = inr (inr (inr refl))
are_flags true false = inr (inl refl)
are_flags false true = inr (inr (inl refl))
are_flags false false = inl refl
