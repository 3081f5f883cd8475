-- Bytes as lines. This project's own: a line ends with LF, the byte 10, and a last line may lack it. Every
-- other byte, CR and zero among them, belongs to its line.
use Rattle.std.specs.Prelude.{◌≡◌, ◌≢◌, ◌==◌, ℕ, ◌+◌, ◌<◌, List, [], ◌∷◌, ◌++◌, All, length, take, drop, if◌then◌else◌}
use Rattle.std.specs.List.{flat_map}

-- the byte stands in front of the first line
abbrev pub onto_first : ℕ → List (List ℕ) → List (List ℕ)
onto_first byte [] = (byte ∷ []) ∷ []
onto_first byte (line ∷ lines) = (byte ∷ line) ∷ lines

-- the lines of a text, without their LFs
abbrev pub lines_of : List ℕ → List (List ℕ)
lines_of [] = []
lines_of (byte ∷ bytes) = if byte == 10 then [] ∷ lines_of bytes else onto_first byte (lines_of bytes)

-- a line with its LF
abbrev pub with_lf : List ℕ → List ℕ
with_lf line = line ++ 10 ∷ []

-- lines, each with its LF
abbrev pub text_of : List (List ℕ) → List ℕ
text_of lines = flat_map with_lf lines

-- no byte is LF
abbrev pub HasNoLf : List ℕ → Type 0
HasNoLf bytes = All (λ byte. byte ≢ 10) bytes

-- the first LF stands at the place
pub record IsFirstLf (bytes : List ℕ) (place : ℕ) : Type 0 where
  pub inside : place < length bytes
  pub before : HasNoLf (take place bytes)
  pub here : drop place bytes ≡ 10 ∷ drop (place + 1) bytes
