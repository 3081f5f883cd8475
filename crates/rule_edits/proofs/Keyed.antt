-- What words ask for, behind a key.
use Rattle.std.proofs.Common.{ℕ, List, Result, Ok, Err, ap}
use Rattle.policy_model.specs.Contents.{Content, Edit}
use Rattle.line_model.specs.LineFaults.{LineFault}
use Rattle.line_model.specs.Left.{◌>>=◌}
use Rattle.line_model.specs.Contents.{Worded, whole, adds}
use Rattle.line_model.specs.Edits.{Edited, keyed, IsContent, IsEdit}

-- an edit of what is asked for, or the fault
abbrev pub under_key : List ℕ → Result Content LineFault → Result Edit LineFault
under_key key (Ok content) = Ok (keyed key content)
under_key key (Err fault) = Err fault

-- words behind a key, or the fault in them
abbrev pub behind_key : List ℕ → Result Worded LineFault → Result Edited LineFault
behind_key key read = read >>= λ worded. Ok (record { key = key; worded = worded })

-- words behind a key ask for the edit of what they ask for
pub edit-under_key : (key : List ℕ) (read : Result Worded LineFault) (asked : Result Content LineFault)
    → IsContent read asked → IsEdit (behind_key key read) (under_key key asked)
edit-under_key key (Err fault) asked is = ap (under_key key) is
edit-under_key key (Ok (whole content)) asked is = ap (under_key key) is
edit-under_key key (Ok (adds front text)) asked (Ok tree, reads, is) = (Ok tree, reads, ap (under_key key) is)
edit-under_key key (Ok (adds front text)) asked (Err fault, reads, is) = (Err fault, reads, ap (under_key key) is)
