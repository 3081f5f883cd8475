use Rattle.std.proofs.Common.{◌-◌, arith}
use Rattle.list_marks.proofs.Absent.{absent_behind}
use Rattle.list_marks.proofs.search.end_near.Goals as goal

pub loop-to-preserved : goal.loop-to-preserved
loop-to-preserved c =
    let h = c.loop-to.invariant in (
      omega (arith, c.loop-to-test.true),
      omega (arith, h.1),
      absent_behind c.args.marks.now c.args.mark (c.loop-to.to - 64) c.loop-to.to (omega arith) h.1 h.2 (c.has.ensures c.if-has.false),
    )
