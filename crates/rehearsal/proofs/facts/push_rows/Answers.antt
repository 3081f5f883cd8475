-- One row more was written.
use Rattle.rehearsal.proofs.RowTexts.{row_step}
use Rattle.rehearsal.proofs.facts.push_rows.Goals as goal

pub loop-place-preserved : goal.loop-place-preserved
loop-place-preserved c = row_step c.loop-place.text.items c.push_row.new.text.items _ c.loop-place.place c.loop-place-test.true c.in_ok-push_row.ensures c.loop-place.invariant
