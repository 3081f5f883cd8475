-- A string among words.
use Rattle.std.specs.Prelude.{ℕ, Bool, false, ◌||◌, List, [], ◌∷◌}
use Rattle.std.specs.Str.{bytes_eq}

-- the bytes are those of one of the words
abbrev pub is_one_of : List ℕ → List (List ℕ) → Bool
is_one_of bytes [] = false
is_one_of bytes (word ∷ []) = bytes_eq word bytes
is_one_of bytes (word ∷ other ∷ words) = bytes_eq word bytes || is_one_of bytes (other ∷ words)
