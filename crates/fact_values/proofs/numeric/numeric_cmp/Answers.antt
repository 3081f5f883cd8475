use Rattle.std.proofs.Common.{◌∙◌, inl, inr}
use Rattle.fact_values.proofs.NumericLemmas.{one_ended, empty_when}
use Rattle.fact_values.proofs.numeric.numeric_cmp.Goals as goal
use Rattle.fact_values.proofs.numeric.numeric_cmp.Goals.{then-loop-left-test+else-not-is_empty, else-loop-left-test}

pub returns : goal.returns
returns c =
    one_ended c.loop-left.left.now c.loop-left.right.now c.cmp.result c.min.result c.min-2.result c.cmp.ensures c.min.ensures c.min-2.ensures
    (elim c.loop-left-test.branch [
      | then-loop-left-test+else-not-is_empty w ↦ inr (empty_when w.is_empty-in-loop-left.result c.loop-left.right.now w.is_empty-in-loop-left.ensures w.if-not-is_empty.false)
      | else-loop-left-test w ↦ inl (empty_when c.is_empty.result c.loop-left.left.now c.is_empty.ensures w.loop-left-test.false)
    ])
    ∙ c.loop-left.invariant
