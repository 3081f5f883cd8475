-- What the words of an edit ask for is what their line asks for.
use Rattle.std.proofs.Common.{Result, Ok, Err, refl, ap}
use Rattle.policy_model.specs.Contents.{Edit}
use Rattle.line_model.specs.LineFaults.{LineFault}
use Rattle.line_model.specs.Edits.{Edited, IsEdit}
use Rattle.session_model.specs.Lines.{as_lined, edits, edited, Asks}

pub asks_edit : (read : Result Edited LineFault) (asked : Result Edit LineFault) → IsEdit read asked → Asks (as_lined edits read) (edited asked)
asks_edit (Err fault) asked is = ap edited is
asks_edit (Ok e) asked is = (asked, is, refl)
