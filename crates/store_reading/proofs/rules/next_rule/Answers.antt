use Rattle.std.proofs.Common.{◌<◌, length, arith, refl, false}
use Rattle.policy_model.specs.declared.limits.TheConstants.{MOST_RULES}
use Rattle.std.proofs.lemmas.Bool.{both_ways}
use Rattle.std.proofs.lemmas.List.{length-map}
use Rattle.raw_tables.specs.Raw.{plain_receipts, plain_rule, plain_rules}
use Rattle.store_reading.specs.Readings.{IsRuleOf}
use Rattle.store_reading.proofs.NextRule.{one_more, last_fits, last_is_above}
use Rattle.store_reading.proofs.RuleSteps.{widen}
use Rattle.store_reading.proofs.rules.next_rule.Goals as goal

pub returns-then-not-is_above : goal.returns-then-not-is_above
returns-then-not-is_above c =
    λ h. both_ways false refl (c.if-not-is_above.ensures.1 (last_is_above (plain_receipts c.args.receipts.now) (plain_rules c.args.before.now) (plain_rule c.args.row.now) h))

pub returns : goal.returns
returns c =
    let rs = plain_receipts c.args.receipts.now in
    let rules = plain_rules c.args.before.now in
    let r = plain_rule c.args.row.now in
    let few : length rules < MOST_RULES = omega (arith, length-map c.args.before.now plain_rule, c.if-before-ge-MOST_RULES.false) in
    widen (IsRuleOf r) (one_more rs rules r c.requires.before few (c.if-not-is_above.ensures.0 refl)) (last_fits rs rules r) c.read_rule.result c.read_rule.ensures
