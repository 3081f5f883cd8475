use Rattle.std.specs.Prelude.{◌≡◌, ◌++◌, take, drop}
use Rattle.store_model.specs.Change.{raw_change}
use Rattle.rule_values.specs.Selector.{selector_of}
use Rattle.raw_tables.specs.Raw.{plain_rules}
use Rattle.memory_keeper.specs.Changes.{raw_changed_by}
use Rattle.memory_keeper.proofs.changes.change_each.Given as goal

abbrev pub invariant-loop-i : goal.invariant-loop-i
invariant-loop-i l =
    plain_rules l.rules ≡ raw_change (selector_of l.selector) (raw_changed_by l.change) (take l.i (plain_rules l.fn.rules)) ++ drop l.i (plain_rules l.fn.rules)
