-- A number that is handed on by value is the number.
use Rattle.std.proofs.Common.{◌≡◌, subst, w64, SFits, to_z, of_z}
use Rattle.std.specs.Prelude.{ℤ}
use Rattle.std.proofs.lemmas.Int.{to_z-of_z}

-- a fact about what was handed on is one about the number
pub passed : {X : Type 0} (Fits : ℤ → Type 0) (number : X → ℤ) (x : X) (z : ℤ) → SFits w64 z → Fits (to_z w64 (of_z w64 z)) × (number x ≡ to_z w64 (of_z w64 z)) → Fits z × (number x ≡ z)
passed Fits number x z fits h = subst (λ y. Fits y × (number x ≡ y)) (to_z-of_z w64 z fits) h
