use Rattle.std.proofs.Common.{◌<◌, length, ◌∙◌, sym, ap, arith}
use Rattle.std.proofs.lemmas.List.{length-map}
use Rattle.store_model.specs.Change.{raw_selects}
use Rattle.raw_tables.specs.declared.rule.RawRule.{RawRule}
use Rattle.rule_values.specs.Selector.{selector_of}
use Rattle.raw_tables.specs.Raw.{plain_rule, plain_rules}
use Rattle.memory_keeper.proofs.Removed.{removed_at, kept_at}
use Rattle.memory_keeper.proofs.Marked.{marks_removed}
use Rattle.memory_keeper.proofs.changes.remove_at.Goals as goal

pub returns-then-is_selected-clause-rules : goal.returns-then-is_selected-clause-rules
returns-then-is_selected-clause-rules c =
    let lt : c.args.at < length c.args.rules.now.items = omega (arith, c.requires.span.within, length-map c.args.rules.now.items plain_rule) in
    ap plain_rules c.remove.ensures.items
    ∙ removed_at (raw_selects (selector_of c.args.selector.now)) c.args.rules.now.items c.args.at c.index.result.now lt c.requires.span.front c.requires.span.rear
    (ap (λ (r : RawRule). raw_selects (selector_of c.args.selector.now) (plain_rule r)) (sym c.index.ensures) ∙ (sym c.is_selected.ensures ∙ c.if-is_selected.true))

pub returns-else-is_selected-clause-rules : goal.returns-else-is_selected-clause-rules
returns-else-is_selected-clause-rules c =
    let lt : c.args.at < length c.args.rules.now.items = omega (arith, c.requires.span.within, length-map c.args.rules.now.items plain_rule) in
    kept_at (raw_selects (selector_of c.args.selector.now)) c.args.rules.now.items c.args.at c.index.result.now lt c.requires.span.front c.requires.span.rear
    (ap (λ (r : RawRule). raw_selects (selector_of c.args.selector.now) (plain_rule r)) (sym c.index.ensures) ∙ (sym c.is_selected.ensures ∙ c.if-is_selected.false))

pub returns-then-is_selected-clause-marked : goal.returns-then-is_selected-clause-marked
returns-then-is_selected-clause-marked c =
    marks_removed c.args.rules.now.items c.remove.new.self.items c.args.marks.now.items c.remove-then-is_selected.new.self.items c.args.at c.requires.marked c.remove.ensures.items c.remove-then-is_selected.ensures.items
