use Rattle.std.specs.Prelude.{take}
use Rattle.rule_values.specs.Rule.{rows_of}
use Rattle.rule_values.specs.Selector.{selector_of}
use Rattle.authority_table.specs.Tally.{IsTally}
use Rattle.authority_table.proofs.tally.tallied_each.Given as goal

abbrev pub invariant-loop-rule : goal.invariant-loop-rule
invariant-loop-rule l = IsTally (selector_of l.selector) (rows_of (take l.rule-index l.rules)) l.tally
