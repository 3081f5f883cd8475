use Rattle.std.proofs.Common.{ap, ◌∙◌}
use Rattle.std.specs.List.{list_any}
use Rattle.policy_model.specs.Changes.{selects}
use Rattle.rule_values.specs.Rule.{rows_of}
use Rattle.rule_values.specs.Selector.{selector_of}
use Rattle.authority_table.proofs.TallyGoesOn.{tally_selects}
use Rattle.authority_table.proofs.table.Table.selects.Goals as goal

pub returns : goal.returns
returns c =
    tally_selects (selector_of c.args.selector.now) (rows_of c.deref.result.now) c.tallied.result c.tallied.ensures
    ∙ ap (λ rules. list_any (selects (selector_of c.args.selector.now)) (rows_of rules)) (c.deref.ensures.value ∙ c.self.view_is)
