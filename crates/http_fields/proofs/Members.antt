-- The members of a value, one after another.
use Rattle.std.proofs.Common.{◌≡◌, ℕ, ◌+◌, ◌<◌, ◌≤◌, length, Bool, true, false, nat_lt, ◌==◌, ◌||◌, List, [], ◌∷◌, take, drop, Some, None, if◌then◌else◌, arith, refl, subst, sym, ap, ◌∙◌}
use Rattle.std.specs.List.{list_any, position, position_or_len}
use Rattle.std.proofs.lemmas.Bool.Decides.{nat_tests}
use Rattle.std.proofs.lemmas.List.Splits.{slice_split_first, slice_split_none}
use Rattle.std.proofs.lemmas.List.Quantifiers.{position-Some}
use Rattle.std.proofs.lemmas.List.Sums.{position_or_len_is, fails_before_first}
use Rattle.http_model.specs.Fields.{members, is_close, has_close}

-- the first comma cuts the first member off
cut_at : (value : List ℕ) (comma : ℕ) → position (λ b. b == 44) value ≡ Some comma → members value ≡ take comma value ∷ members (drop (comma + 1) value)
cut_at value comma found =
    let at = position-Some (λ b. b == 44) value comma 0 found in
    let place : position_or_len (λ b. b == 44) value ≡ comma = position_or_len_is (λ b. b == 44) value comma 0 (omega arith) at.2 (λ _. at.1) in
    let inside : position_or_len (λ b. b == 44) value < length value = subst (λ (n : ℕ). n < length value) (sym place) at.0 in
    subst (λ (n : ℕ). members value ≡ take n value ∷ members (drop (n + 1) value)) place (slice_split_first (λ b. b == 44) value 0 inside)

-- no place was found where it would be the length
past_end : (place size : ℕ) (b : Bool) → nat_lt place size ≡ b → (if b then Some place else None) ≡ None → size ≤ place
past_end place size true lt found = cc
past_end place size false lt found = grind (arith, nat_tests, lt)

-- without a comma the value is the one member
no_cut : (value : List ℕ) → position (λ b. b == 44) value ≡ None → members value ≡ value ∷ []
no_cut value found =
    let far : length value ≤ position_or_len (λ b. b == 44) value = past_end (position_or_len (λ b. b == 44) value) (length value) _ refl found in
    slice_split_none (λ b. b == 44) value (λ k d h. fails_before_first (λ b. b == 44) value k d (omega (arith, h, far)))

pub first_member : (value : List ℕ) (comma : ℕ) → position (λ b. b == 44) value ≡ Some comma → has_close value ≡ (is_close (take comma value) || has_close (drop (comma + 1) value))
first_member value comma found = ap (list_any is_close) (cut_at value comma found)

or_false : (b : Bool) → (b || false) ≡ b
or_false true = refl
or_false false = refl

pub last_member : (value : List ℕ) → position (λ b. b == 44) value ≡ None → has_close value ≡ is_close value
last_member value none = ap (list_any is_close) (no_cut value none) ∙ or_false (is_close value)
