use Rattle.std.proofs.Common.{sym, ◌∙◌}
use Rattle.rule_values.specs.Rule.{row_of}
use Rattle.rule_values.specs.Selector.{selector_of}
use Rattle.authority_table.proofs.TallyGoesOn.{tally_passed}
use Rattle.authority_table.proofs.tally.Tally.with.Goals as goal

pub returns-else-is_selected : goal.returns-else-is_selected
returns-else-is_selected c = λ rows h.
    tally_passed (selector_of c.args.selector.now) rows (row_of c.args.rule.now) c.args.self (sym c.is_selected.ensures ∙ c.if-is_selected.false) h
