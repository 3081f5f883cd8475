-- The edit or the fault of the words is that of the line.
use Rattle.std.proofs.Common.{Ok, Err}
use Rattle.line_words.specs.Faults.{fault_of}
use Rattle.rule_edits.specs.Edit.{edit_of}
use Rattle.desk_lines.proofs.AsksEdits.{asks_edit}
use Rattle.desk_lines.proofs.request.read_other.Goals as goal

pub returns-in-Ok : goal.returns-in-Ok
returns-in-Ok c = asks_edit _ (Ok (edit_of c.in-Ok.edit)) c.in-Ok.ensures

pub returns-in-Err : goal.returns-in-Err
returns-in-Err c = λ known. asks_edit _ (Err (fault_of c.in-Err.fault)) (c.in-Err.ensures known)
