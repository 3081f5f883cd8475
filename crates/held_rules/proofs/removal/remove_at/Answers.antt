use Rattle.std.proofs.Common.{◌<◌, length, ◌∙◌, sym, ap, arith}
use Rattle.std.proofs.lemmas.List.{length-map}
use Rattle.policy_model.specs.Changes.{selects}
use Rattle.rule_values.specs.declared.rule.Rule.{Rule}
use Rattle.rule_values.specs.Rule.{row_of, rows_of}
use Rattle.rule_values.specs.Selector.{selector_of}
use Rattle.held_rules.proofs.Removed.{removed_at, kept_at}
use Rattle.held_rules.proofs.Marked.{marks_removed}
use Rattle.held_rules.proofs.removal.remove_at.Goals as goal

pub returns-then-is_selected-clause-rows : goal.returns-then-is_selected-clause-rows
returns-then-is_selected-clause-rows c =
    let lt : c.args.at < length c.args.rules.now.items = omega (arith, c.requires.span.within, length-map c.args.rules.now.items row_of) in
    ap rows_of c.remove.ensures.items
    ∙ removed_at (selects (selector_of c.args.selector.now)) c.args.rules.now.items c.args.at c.index.result.now lt c.requires.span.front c.requires.span.rear
    (ap (λ (r : Rule). selects (selector_of c.args.selector.now) (row_of r)) (sym c.index.ensures) ∙ (sym c.is_selected.ensures ∙ c.if-is_selected.true))

pub returns-else-is_selected-clause-rows : goal.returns-else-is_selected-clause-rows
returns-else-is_selected-clause-rows c =
    let lt : c.args.at < length c.args.rules.now.items = omega (arith, c.requires.span.within, length-map c.args.rules.now.items row_of) in
    kept_at (selects (selector_of c.args.selector.now)) c.args.rules.now.items c.args.at c.index.result.now lt c.requires.span.front c.requires.span.rear
    (ap (λ (r : Rule). selects (selector_of c.args.selector.now) (row_of r)) (sym c.index.ensures) ∙ (sym c.is_selected.ensures ∙ c.if-is_selected.false))

pub returns-then-is_selected-clause-marked : goal.returns-then-is_selected-clause-marked
returns-then-is_selected-clause-marked c =
    marks_removed c.args.rules.now.items c.remove.new.self.items c.args.marks.now.items c.remove-then-is_selected.new.self.items c.args.at c.requires.marked c.remove.ensures.items c.remove-then-is_selected.ensures.items
