use Rattle.std.proofs.Common.{rules}
use Rattle.authority_table.proofs.OneFurther.{one_further}
use Rattle.authority_table.proofs.table.Table.find.Goals as goal

pub loop-rule-preserved : goal.loop-rule-preserved
loop-rule-preserved c = λ all known. one_further _ _ _ _ c.deref-rule-items.result.now c.loop-rule.rule-index _ _ _ (search rules) c.rule-item.is (c.with_held-first.ensures all known _ (c.loop-rule.invariant all known))
