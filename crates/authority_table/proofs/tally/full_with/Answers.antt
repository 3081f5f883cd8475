use Rattle.std.proofs.Common.{ap, sym, ◌∙◌, arith, Some}
use Rattle.std.proofs.lemmas.Bool.Decides.{nat_tests}
use Rattle.policy_model.specs.Outcomes.{at_most}
use Rattle.rule_values.specs.Rule.{row_of}
use Rattle.authority_table.proofs.Tallied.{full_last}
use Rattle.authority_table.proofs.tally.full_with.Goals as goal

pub returns-then-rule-ge-MOST_DISABLES : goal.returns-then-rule-ge-MOST_DISABLES
returns-then-rule-ge-MOST_DISABLES c = λ s rows sel h.
    ap Some (c.lesser.ensures ∙ ap (at_most c.args.rule.now.id) h)
    ∙ sym (full_last s rows (row_of c.args.rule.now) sel (grind (arith, nat_tests, c.if-rule-ge-MOST_DISABLES.true)))
