use Rattle.std.specs.Prelude.{◌≡◌, not, vec_capacity}
use Rattle.std.proofs.lemmas.List.Filters.{FiltersInPlace}
use Rattle.policy_model.specs.Changes.{selects}
use Rattle.rule_values.specs.Rule.{row_of, rows_of}
use Rattle.rule_values.specs.Selector.{selector_of}
use Rattle.held_rules.specs.Marks.{AreMarks}
use Rattle.held_rules.proofs.removal.remove_each.Given as goal

abbrev pub invariant-loop-i : goal.invariant-loop-i
invariant-loop-i l =
    FiltersInPlace (λ x. not (selects (selector_of l.selector) (row_of x))) l.fn.rules.items l.rules.items l.kept l.i
    × AreMarks (rows_of l.rules.items) l.marks.items
    × (vec_capacity l.rules ≡ vec_capacity l.fn.rules)
    × (vec_capacity l.marks ≡ vec_capacity l.fn.marks)
