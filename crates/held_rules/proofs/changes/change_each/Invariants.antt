use Rattle.std.specs.Prelude.{◌≡◌, ◌++◌, take, drop, map, if◌then◌else◌}
use Rattle.policy_model.specs.Changes.{selects}
use Rattle.rule_values.specs.Rule.{rows_of}
use Rattle.rule_values.specs.Selector.{selector_of}
use Rattle.rule_values.specs.Changes.{changed_by}
use Rattle.held_rules.proofs.changes.change_each.Given as goal

abbrev pub invariant-loop-i : goal.invariant-loop-i
invariant-loop-i l =
    rows_of l.rules ≡ map (λ r. if selects (selector_of l.selector) r then changed_by l.change r else r) (take l.i (rows_of l.fn.rules)) ++ drop l.i (rows_of l.fn.rules)
