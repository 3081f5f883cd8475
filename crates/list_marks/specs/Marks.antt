-- Short numbers of bytes: where those of two lists of bytes differ, so do the bytes.
use Rattle.std.specs.Prelude.{ℕ, ◌+◌, ◌*◌, ◌%◌, List, [], ◌∷◌}

-- the mark of some bytes, and one byte behind them
abbrev pub mixed : ℕ → ℕ → ℕ
mixed mark byte = (mark * 16777619 + byte) % 4294967296

-- the mark of bytes that are read from this mark on
abbrev pub mark_from : ℕ → List ℕ → ℕ
mark_from mark [] = mark
mark_from mark (byte ∷ rest) = mark_from (mixed mark byte) rest

-- the mark of bytes
abbrev pub mark_of : List ℕ → ℕ
mark_of bytes = mark_from 0 bytes
