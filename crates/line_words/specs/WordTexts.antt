-- What a reader of a word's bytes returns, as plain data.
use Rattle.std.specs.Prelude.{ℕ, List, [], ◌∷◌, Option, Some, None}
use Rattle.line_model.specs.WordTexts.{joined, bytes_in}
use denote.Bor.{Bor}

-- a first byte and the bytes of the rest
abbrev pub front_and : Option (ℕ × Bor (List ℕ)) → Option (List ℕ)
front_and None = None
front_and (Some read) = joined (Some (read.0 ∷ [])) (bytes_in read.1.now)
