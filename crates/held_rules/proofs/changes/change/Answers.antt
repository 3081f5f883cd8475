use Rattle.rule_values.specs.Rule.{rows_of}
use Rattle.held_rules.proofs.Marked.{marks_kept}
use Rattle.held_rules.proofs.changes.change.Goals as goal

pub returns-in_default-clause-marked : goal.returns-in_default-clause-marked
returns-in_default-clause-marked c =
    marks_kept c.args.selector.now c.args.change.now (rows_of c.args.rules.now.items) _ c.args.marks.now.items c.in_default.not-Remove c.requires.marked c.change_in_place.ensures.rows
