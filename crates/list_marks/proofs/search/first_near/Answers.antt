use Rattle.std.proofs.Common.{◌+◌, arith}
use Rattle.list_marks.proofs.Absent.{absent_before}
use Rattle.list_marks.proofs.search.first_near.Goals as goal

pub loop-at-preserved : goal.loop-at-preserved
loop-at-preserved c = (
  omega (arith, c.loop-at-test.true),
  absent_before c.args.marks.now c.args.mark c.loop-at.at (c.loop-at.at + 64) (omega arith) (omega (arith, c.loop-at-test.true)) c.loop-at.invariant.1 (c.has.ensures c.if-has.false),
)
