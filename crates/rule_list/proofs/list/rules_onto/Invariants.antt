use Rattle.std.proofs.Common.{◌≡◌, ◌++◌, take}
use Rattle.rule_values.specs.Rule.{rows_of}
use Rattle.rule_list.specs.ListText.{rule_lines}
use Rattle.rule_list.proofs.list.rules_onto.Given as goal

abbrev pub invariant-loop-rule : goal.invariant-loop-rule
invariant-loop-rule l = l.out.items ≡ l.fn.out.items ++ rule_lines (rows_of (take l.rule-index l.rules))
