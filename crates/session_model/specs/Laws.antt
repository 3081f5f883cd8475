-- What follows from the definitions alone; each is proved on a function of src/laws.rt.
use Rattle.std.specs.Prelude.{◌≡◌, ℕ, List, take}
use Rattle.line_text.specs.declared.limits.TheConstants.{LINE_HELD}
use Rattle.session_model.specs.Lines.{lined}

-- the front of a line that is held asks for the same as the line
abbrev pub FrontAsksTheSame : Type 0
FrontAsksTheSame = (line : List ℕ) → lined (take LINE_HELD line) ≡ lined line
