-- A text in which no LF is found has none.
use Rattle.std.proofs.Common.{◌≡◌, ◌≢◌, ℕ, ◌≤◌, length, Bool, true, false, nat_lt, ◌==◌, List, All, get_or, Some, None, if◌then◌else◌, arith, refl, subst}
use Rattle.std.specs.List.{position, position_or_len}
use Rattle.std.proofs.lemmas.Bool.Decides.{nat_tests}
use Rattle.std.proofs.lemmas.List.Sums.{fails_before_first}

past_end : (place size : ℕ) (b : Bool) → nat_lt place size ≡ b → (if b then Some place else None) ≡ None → size ≤ place
past_end place size true lt found = cc
past_end place size false lt found = grind (arith, nat_tests, lt)

other : (byte : ℕ) → (byte == 10) ≡ false → byte ≢ 10
other byte fails is = let no : true ≡ false = subst (λ (b : ℕ). (b == 10) ≡ false) is fails in cc

-- where no LF is found there is none
pub no_lf : (text : List ℕ) → position (λ b. b == 10) text ≡ None → All (λ byte. byte ≢ 10) text
no_lf text none =
    let far : length text ≤ position_or_len (λ b. b == 10) text = past_end (position_or_len (λ b. b == 10) text) (length text) _ refl none in
    λ k d inside. other (get_or text k d) (fails_before_first (λ b. b == 10) text k d (omega (arith, inside, far)))
