-- Bytes cut at each byte of one value.
use Rattle.std.specs.Prelude.{ℕ, ◌==◌, List, [], Option, Some, None}
use Rattle.std.specs.List.{slice_split}

-- the pieces between the bytes of that value
abbrev pub pieces : ℕ → List ℕ → List (List ℕ)
pieces byte bytes = slice_split (λ b. b == byte) bytes

-- no pieces behind the last one, or those of the rest
abbrev pub pieces_left : ℕ → Option (List ℕ) → List (List ℕ)
pieces_left byte None = []
pieces_left byte (Some rest) = pieces byte rest
