use Rattle.std.proofs.Common.{rules, ◌≡◌, ◌≤◌, length, take, length-take-le, [], ◌∷◌, ◌++◌, subst, arith}
use Rattle.rule_values.specs.declared.rule.Rule.{Rule}
use Rattle.rule_values.specs.Rule.{row_of, rows_of}
use Rattle.authority_table.specs.Tally.{IsTally}
use Rattle.rule_values.specs.Selector.{selector_of}
use Rattle.authority_table.proofs.TallyGoesOn.{tally_further, tally_fewer}
use Rattle.authority_table.proofs.tally.tallied_each.Goals as goal

pub with-tally-requires : goal.with-tally-requires
with-tally-requires c =
    let fewer : c.loop-rule.tally.count ≤ length (take c.loop-rule.rule-index c.args.rules.now) =
    tally_fewer (selector_of c.args.selector.now) (take c.loop-rule.rule-index c.args.rules.now) c.loop-rule.tally c.loop-rule.invariant in
    let lt : c.loop-rule.rule-index ≤ length c.args.rules.now = search rules in
    let same : length (take c.loop-rule.rule-index c.args.rules.now) ≡ c.loop-rule.rule-index = length-take-le c.loop-rule.rule-index c.args.rules.now lt in
    omega (arith, fewer, same, c.requires)

pub loop-rule-preserved : goal.loop-rule-preserved
loop-rule-preserved c =
    tally_further (selector_of c.args.selector.now) c.args.rules.now c.loop-rule.rule-index _ _ _ (search rules) c.rule-item.is
    (subst (λ (r : Rule). IsTally (selector_of c.args.selector.now) (rows_of (take c.loop-rule.rule-index c.args.rules.now) ++ row_of r ∷ []) c.with-tally.result) c.get.ensures
    (c.with-tally.ensures _ c.loop-rule.invariant))

pub loop-rule-init : goal.loop-rule-init
loop-rule-init c = c.none-tally.ensures (selector_of c.args.selector.now)
