-- No piece is left, and pieces are counted as lines are.
use Rattle.rehearsal.proofs.Counted.{counted_all}
use Rattle.rehearsal.specs.Sayings.{says}
use Rattle.rehearsal.proofs.saying.Saying.count.Goals as goal

pub returns : goal.returns
returns c = counted_all (says c.args.self) c.loop-left.left c.loop-left.count c.args.replies.now c.in_default.is c.loop-left.invariant.counted c.requires
