use Rattle.std.proofs.Common.{◌≡◌, length}
use Rattle.req_tree.specs.NumericOrder.{numeric_order}
use Rattle.fact_values.proofs.numeric.numeric_cmp.Given as goal

abbrev pub invariant-loop-left : goal.invariant-loop-left
invariant-loop-left l = numeric_order l.left l.right ≡ numeric_order l.a l.b

abbrev pub decreases-loop-left : goal.decreases-loop-left
decreases-loop-left l = length l.left
