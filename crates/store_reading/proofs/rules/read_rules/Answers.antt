use Rattle.std.proofs.Common.{◌++◌, [], ◌∷◌, sym, subst}
use Rattle.raw_tables.specs.Raw.{plain_receipts, plain_rule, plain_rules}
use Rattle.std.specs.Prelude.{take, ◌+◌}
use Rattle.store_model.specs.Accepted.{AcceptsRules}
use Rattle.store_reading.specs.Fault.{IsBadRule}
use Rattle.store_reading.specs.Readings.{HoldsRules, IsRuleOf}
use Rattle.store_reading.proofs.RuleSteps.{one_further, is_bad}
use Rattle.store_reading.proofs.rules.read_rules.Goals as goal

pub returns-in-None-clause-refused : goal.returns-in-None-clause-refused
returns-in-None-clause-refused c =
    let rs = plain_receipts c.args.receipts.now in
    let bad : AcceptsRules rs (plain_rules (take c.loop-at.at c.args.rows.now) ++ plain_rule c.index-rows-at.result ∷ []) → ⊥ = rw c.in-None.is at c.in_ok-next_rule.ensures in
    subst (IsBadRule rs (plain_rules c.args.rows.now)) (sym c.refused.ensures)
    (is_bad rs c.args.rows.now c.loop-at.at c.index-rows-at.result c.loop-at-test.true (sym c.index-rows-at.is) c.loop-at.table c.loop-at.invariant bad)

pub loop-at-preserved : goal.loop-at-preserved
loop-at-preserved c =
    let rs = plain_receipts c.args.receipts.now in
    let next : AcceptsRules rs (plain_rules (take c.loop-at.at c.args.rows.now) ++ plain_rule c.index-rows-at.result ∷ []) × IsRuleOf (plain_rule c.index-rows-at.result) c.in-Some.rule = rw c.in-Some.is at c.in_ok-next_rule.ensures in
    subst (HoldsRules rs (plain_rules (take (c.loop-at.at + 1) c.args.rows.now))) (sym c.in_ok-push-in-Some.ensures.ok)
    (one_further rs c.args.rows.now c.loop-at.at c.index-rows-at.result c.loop-at-test.true (sym c.index-rows-at.is) c.loop-at.table c.loop-at.invariant c.in-Some.rule next.0 next.1)
