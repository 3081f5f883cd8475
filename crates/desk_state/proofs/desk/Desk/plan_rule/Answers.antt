use Rattle.std.proofs.Common.{rules}
use Rattle.rule_edits.specs.Edit.{new_row}
use Rattle.desk_state.specs.Stands.{tables}
use Rattle.desk_state.proofs.Refused.{by_rows_of_rule}
use Rattle.desk_state.proofs.desk.Desk.plan_rule.Goals as goal

pub returns-in_err-rows-clause-plans : goal.returns-in_err-rows-clause-plans
returns-in_err-rows-clause-plans c =
    let alone = by_rows_of_rule (new_row c.args.new.now) (tables c.args.self.now) c.requires.few in
    let refused = c.in_err-rows.ensures.refused (new_row c.args.new.now) in
    search (rules, alone, refused)
