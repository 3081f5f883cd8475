use Rattle.std.proofs.Common.{ap, ◌∙◌}
use Rattle.rule_values.specs.Label.{label_bytes}
use Rattle.rule_values.specs.Rule.{rows_of}
use Rattle.rule_values.specs.Selector.{which_of, selector_of}
use Rattle.list_marks.specs.Marks.{mark_of}
use Rattle.held_rules.proofs.Marked.{mark_span}
use Rattle.held_rules.proofs.span.span_of.Goals as goal

pub returns-in-Id : goal.returns-in-Id
returns-in-Id c = c.span_of_id.ensures (selector_of c.args.selector.now) (ap which_of c.in-Id.is)

pub returns-in-Label : goal.returns-in-Label
returns-in-Label c =
    mark_span (selector_of c.args.selector.now) (label_bytes c.in-Label.label) (rows_of c.args.rules.now) c.args.marks.now c.mark_of.result c.marked_span.result (ap which_of c.in-Label.is)
    c.requires.marked (c.mark_of.ensures ∙ ap mark_of c.as_slice.ensures.bytes) c.marked_span.ensures
