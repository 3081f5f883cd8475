-- Nothing that was read of a line is neither asked nor at fault; each is proved on a function of src/laws.rt.
use Rattle.std.specs.Prelude.{ℕ, List, Result}
use Rattle.policy_model.specs.Contents.{Content, Edit}
use Rattle.line_model.specs.LineFaults.{LineFault}
use Rattle.line_model.specs.Contents.{Worded}
use Rattle.line_model.specs.Edits.{Edited, IsContent, IsEdit}
use Rattle.session_model.specs.Lines.{Request, IsAsked}

-- whatever was read of a text, it asks for a content or has a fault
abbrev pub SomeContentIsAsked : Type 0
SomeContentIsAsked = (words : Result Worded LineFault) → ((asked : Result Content LineFault) → IsContent words asked → ⊥) → ⊥

-- whatever was read of an edit's line, it asks for an edit or has a fault
abbrev pub SomeEditIsAsked : Type 0
SomeEditIsAsked = (words : Result Edited LineFault) → ((asked : Result Edit LineFault) → IsEdit words asked → ⊥) → ⊥

-- each line of a session asks for something or has a fault
abbrev pub EachLineAsks : Type 0
EachLineAsks = (line : List ℕ) → ((asked : Result Request LineFault) → IsAsked line asked → ⊥) → ⊥
