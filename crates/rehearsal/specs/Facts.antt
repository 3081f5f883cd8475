-- What a rehearsal's desk knows of code. This project's own.
use Rattle.std.specs.Prelude.{ℕ, zero, suc, ◌+◌, List, [], ◌∷◌, ◌++◌, codes}
use Rattle.line_reader.specs.Lines.{text_of}
use Rattle.rehearsal.specs.Made.{hash_text}

-- a row that says that the code of this hash is notarized
abbrev pub notarized_row : ℕ → List ℕ
notarized_row d = hash_text d ++ codes ",flag,,notarized,,"

-- such rows, of so many hashes, of which each second one has a row
abbrev pub rows_from : ℕ → ℕ → List (List ℕ)
rows_from zero d = []
rows_from (suc n) d = notarized_row d ∷ rows_from n (d + 2)

-- the facts file of a rehearsal: of its fifty hashes the 25 of an even number are notarized
abbrev pub facts_file : List ℕ
facts_file = text_of (codes "cdhash,scope,slot,key,kind,value" ∷ rows_from 25 0)
