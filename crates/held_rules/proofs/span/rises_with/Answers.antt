use Rattle.std.proofs.Common.{◌≡◌, ◌-◌, ◌<◌, suc, length, subst, arith}
use Rattle.std.proofs.lemmas.Bool.Decides.{nat_tests}
use Rattle.rule_values.specs.declared.rule.Rule.{Rule}
use Rattle.held_rules.proofs.Rising.{rising_more}
use Rattle.held_rules.proofs.span.rises_with.Goals as goal

pub returns-then-rising : goal.returns-then-rising
returns-then-rising c = λ less.
    let above : c.index-rules-count.result.id < c.args.rule.now.id = grind (arith, nat_tests, c.lt.ensures, less) in
    let one : suc (length c.args.rules.now - 1) ≡ length c.args.rules.now = omega (arith, c.if-count-eq0.false) in
    rising_more c.args.rules.now c.args.rule.now (length c.args.rules.now - 1) c.index-rules-count.result (c.requires c.if-rising.true) one
    (subst (λ (r : Rule). r.id < c.args.rule.now.id) c.index-rules-count.is above)
