-- Histories of turns, which exist in proofs alone. This project's own.
-- A turn is the number of a seat and the events of that turn; a history is a list of turns, oldest first.
use Rattle.std.specs.Prelude.{ℕ, ◌==◌, List, [], ◌∷◌, filter}
use Rattle.turn_lock.specs.declared.logged.Turn.{Turn}

-- the turns of the seat with this number
abbrev pub turns_of : {E : Type 0} → ℕ → List (Turn E) → List (Turn E)
turns_of n h = filter (λ t. t.by == n) h

-- what one has seen, and then what the other has seen beyond it
abbrev pub longer : {E : Type 0} → List (Turn E) → List (Turn E) → List (Turn E)
longer [] ys = ys
longer (x ∷ xs) [] = x ∷ xs
longer (x ∷ xs) (y ∷ ys) = x ∷ longer xs ys
