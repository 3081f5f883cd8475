use Rattle.std.proofs.Common.{◌≡◌, ◌++◌, ◌-◌, ◌*◌}
use Rattle.line_reader.specs.Lines.{text_of}
use Rattle.rehearsal.specs.Facts.{rows_from}
use Rattle.rehearsal.proofs.facts.push_rows.Given as goal

abbrev pub invariant-loop-place : goal.invariant-loop-place
invariant-loop-place l = l.text.items ++ text_of (rows_from (25 - l.place) (2 * l.place)) ≡ l.fn.text.items ++ text_of (rows_from 25 0)
