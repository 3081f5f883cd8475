use Rattle.std.proofs.Common.{◌≡◌, ◌++◌}
use Rattle.line_reader.specs.Lines.{text_of}
use Rattle.rehearsal.specs.Left.{lines_left}
use Rattle.rehearsal.specs.Made.{made}
use Rattle.rehearsal.proofs.session.session_text.Given as goal

abbrev pub invariant-loop-rehearsal : goal.invariant-loop-rehearsal
invariant-loop-rehearsal l = l.text.items ++ text_of (lines_left l.rehearsal) ≡ text_of (made l.steps)

abbrev pub decreases-loop-rehearsal : goal.decreases-loop-rehearsal
decreases-loop-rehearsal l = l.rehearsal.left
