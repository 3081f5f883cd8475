-- What follows from the definitions alone; each is proved on a function of src/laws.rt.
use Rattle.std.specs.Prelude.{◌≡◌, ℕ, All, decimal}
use Rattle.line_reader.specs.Lines.{lines_of, text_of, HasNoLf}
use Rattle.rehearsal.specs.Made.{made}

-- each line of a rehearsal is one line
abbrev pub MadeOfLines : Type 0
MadeOfLines = (n : ℕ) → All HasNoLf (made n)

-- the lines of a rehearsal's text are those of the rehearsal
abbrev pub TextHasTheLines : Type 0
TextHasTheLines = (n : ℕ) → lines_of (text_of (made n)) ≡ made n

-- no number's digits have an LF among them
abbrev pub NumbersHaveNoLf : Type 0
NumbersHaveNoLf = (n : ℕ) → HasNoLf (decimal n)
