-- The moments that a clock tells. This project's own.
use Rattle.std.specs.Prelude.{◌≡◌, ℕ, List, [], ◌∷◌, Option, None, Some, Result, Ok, Err, ⊤}

-- the first moment was told, and taken off unless it is the last
abbrev pub Ticks : List ℕ → List ℕ → ℕ → Type 0
Ticks [] next now = ⊥
Ticks (moment ∷ []) next now = (now ≡ moment) × (next ≡ moment ∷ [])
Ticks (moment ∷ later ∷ rest) next now = (now ≡ moment) × (next ≡ later ∷ rest)

-- what asking for the moment comes to: a clock that fails keeps its moments
abbrev pub IsNow : {E : Type 0} → Option (List ℕ) → Option (List ℕ) → Result ℕ E → Type 0
IsNow None new r = ⊤
IsNow (Some moments) None r = ⊥
IsNow (Some moments) (Some next) (Ok now) = Ticks moments next now
IsNow (Some moments) (Some next) (Err e) = next ≡ moments
