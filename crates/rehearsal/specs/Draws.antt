-- Text that is made up by draws from a generator of numbers, a linear congruential one. This project's own.
use Rattle.std.specs.Prelude.{ℕ, ◌+◌, ◌*◌, ◌/◌, ◌%◌, ◌^◌, List, [], ◌∷◌, ◌++◌}

-- the generator's state after a draw
abbrev pub stirred : ℕ → ℕ
stirred x = (x * 6364136223846793005 + 1442695040888963407) % 2 ^ 64

-- the number below k that a state gives
abbrev pub below : ℕ → ℕ → ℕ
below k x = x / 2 ^ 33 % k

-- text that takes draws: from the generator's state before it, the text and the state after it
abbrev pub Piece : Type 0
Piece = ℕ → List ℕ × ℕ

-- text that takes no draw
abbrev pub fixed : List ℕ → Piece
fixed text x = (text, x)

-- text that one draw below k stands for
abbrev pub drawn : ℕ → (ℕ → List ℕ) → Piece
drawn k text x = (text (below k (stirred x)), stirred x)

-- text that one draw below k chooses, and which may draw on
abbrev pub chosen : ℕ → (ℕ → Piece) → Piece
chosen k piece x = piece (below k (stirred x)) (stirred x)

-- a piece, and behind it what the rest makes of the state
abbrev pub onto : List ℕ × ℕ → Piece → List ℕ × ℕ
onto made rest = (made.0 ++ (rest made.1).0, (rest made.1).1)

-- pieces one behind the other, whose draws are taken in that order
abbrev pub in_turn : List Piece → Piece
in_turn [] x = ([], x)
in_turn (piece ∷ pieces) x = onto (piece x) (in_turn pieces)
