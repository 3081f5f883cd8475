-- A line read word by word, up to its first fault. This project's own.
use Rattle.std.specs.Prelude.{ℕ, ◌+◌, ◌-◌, List, [], ◌∷◌, length, Option, Result, Ok, Err}
use Rattle.std.specs.Option.{ok_or}
use Rattle.line_model.specs.Words.{words}
use Rattle.line_model.specs.LineFaults.{LineFault, bad_line}

-- what is left of a line: the column where the next word begins, and the words
pub record Left : Type 0 where
  pub column : ℕ
  pub words : List (List ℕ)

-- a whole line
abbrev pub all_of : List ℕ → Left
all_of line = record { column = 1; words = words line }

-- reading goes on with what was read, and ends at the first fault
infixl 10 ◌>>=◌
abbrev pub ◌>>=◌ : {A B : Type 0} → Result A LineFault → (A → Result B LineFault) → Result B LineFault
(Ok x) >>= next = next x
(Err fault) >>= next = Err fault

-- the first word and what is left behind it; where there is none, the column is the line's length plus one
abbrev pub word_of : ℕ → List (List ℕ) → Result (List ℕ × Left) LineFault
word_of column [] = Err (bad_line (column - 1))
word_of column (w ∷ ws) = Ok (w, record { column = column + length w + 1; words = ws })

-- the next word
abbrev pub word_at : Left → Result (List ℕ × Left) LineFault
word_at left = word_of left.column left.words

-- the next word as what it reads as, or the fault
abbrev pub value_at : {A : Type 0} → (List ℕ → Option A) → LineFault → Left → Result (A × Left) LineFault
value_at read fault left = do
  word ← word_at left
  value ← ok_or (read word.0) fault
  Ok (value, word.1)

-- that the next word doesn't fit
abbrev pub misfit : Left → LineFault
misfit left = bad_line left.column

-- no word is left
abbrev pub end_of : Left → List (List ℕ) → Result Left LineFault
end_of left [] = Ok left
end_of left (w ∷ ws) = Err (misfit left)

-- the line's end
abbrev pub end_at : Left → Result Left LineFault
end_at left = end_of left left.words
