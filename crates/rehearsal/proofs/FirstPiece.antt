-- Bytes cut at the first byte of one value.
use Rattle.std.proofs.Common.{◌≡◌, ℕ, ◌+◌, ◌-◌, ◌<◌, ◌≤◌, length, Bool, true, false, nat_lt, ◌==◌, List, [], ◌∷◌, take, drop, Some, None, if◌then◌else◌, arith, refl, subst, sym, ◌∙◌, ap, length-drop}
use Rattle.std.specs.List.{position, position_or_len}
use Rattle.std.proofs.lemmas.Bool.Decides.{nat_tests}
use Rattle.std.proofs.lemmas.List.Splits.{slice_split_first, slice_split_none}
use Rattle.std.proofs.Math.Seq.{take-length}
use Rattle.std.proofs.lemmas.List.Quantifiers.{position-Some}
use Rattle.std.proofs.lemmas.List.Sums.{position_or_len_is, fails_before_first}
use Rattle.rehearsal.specs.Pieces.{pieces}

-- a slice to its end, as the code spells it
to_the_end : (n : ℕ) (xs : List ℕ) → take (length xs - n) (drop n xs) ≡ drop n xs
to_the_end n xs = ap (λ (k : ℕ). take k (drop n xs)) (sym (length-drop n xs)) ∙ take-length (drop n xs)

-- the first one stands at the place
pub cut_at : (byte : ℕ) (bytes : List ℕ) (place : ℕ) → position (λ b. b == byte) bytes ≡ Some place
    → pieces byte bytes ≡ take place bytes ∷ pieces byte (take (length bytes - (place + 1)) (drop (place + 1) bytes))
cut_at byte bytes place found =
    let at = position-Some (λ b. b == byte) bytes place 0 found in
    let is : position_or_len (λ b. b == byte) bytes ≡ place = position_or_len_is (λ b. b == byte) bytes place 0 (omega arith) at.2 (λ _. at.1) in
    let inside : position_or_len (λ b. b == byte) bytes < length bytes = subst (λ (n : ℕ). n < length bytes) (sym is) at.0 in
    rw (to_the_end (place + 1) bytes) (subst (λ (n : ℕ). pieces byte bytes ≡ take n bytes ∷ pieces byte (drop (n + 1) bytes)) is (slice_split_first (λ b. b == byte) bytes 0 inside))

-- no place was found where it would be the length
past_end : (place size : ℕ) (b : Bool) → nat_lt place size ≡ b → (if b then Some place else None) ≡ None → size ≤ place
past_end place size true lt found = cc
past_end place size false lt found = grind (arith, nat_tests, lt)

-- there is none
pub no_cut : (byte : ℕ) (bytes : List ℕ) → position (λ b. b == byte) bytes ≡ None → pieces byte bytes ≡ bytes ∷ []
no_cut byte bytes found =
    let far : length bytes ≤ position_or_len (λ b. b == byte) bytes = past_end (position_or_len (λ b. b == byte) bytes) (length bytes) _ refl found in
    slice_split_none (λ b. b == byte) bytes (λ k d h. fails_before_first (λ b. b == byte) bytes k d (omega (arith, h, far)))
