use Rattle.std.specs.Prelude.{not}
use Rattle.std.proofs.lemmas.List.Filters.{FiltersInPlace}
use Rattle.store_model.specs.Change.{raw_selects}
use Rattle.rule_values.specs.Selector.{selector_of}
use Rattle.raw_tables.specs.Raw.{plain_rule, plain_rules}
use Rattle.memory_keeper.specs.Marks.{AreMarks}
use Rattle.memory_keeper.proofs.changes.remove_each.Given as goal

abbrev pub invariant-loop-i : goal.invariant-loop-i
invariant-loop-i l =
    FiltersInPlace (λ x. not (raw_selects (selector_of l.selector) (plain_rule x))) l.fn.rules.items l.rules.items l.kept l.i × AreMarks (plain_rules l.rules.items) l.marks.items
