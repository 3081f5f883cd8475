use Rattle.std.proofs.Common.{[], ap, ◌∙◌, subst, length}
use Rattle.held_rules.specs.Spare.{HasRoom}
use Rattle.authority_table.proofs.Planned.{plan_of_insert}
use Rattle.authority_table.proofs.table.Table.plan_insert.Goals as goal

pub returns-clause-planned : goal.returns-clause-planned
returns-clause-planned c =
    plan_of_insert c.args.self.now c.args.rule c.in_ok-rule.rule c.in_ok-room.room c.with-touched.result c.in_ok-rule.ensures
    (subst (λ n. HasRoom n c.in_ok-room.room) (c.len.ensures ∙ (c.self.inside.rules.ok.0 ∙ ap length c.self.view_is)) c.in_ok-room.ensures) (c.with-touched.ensures [] c.none.ensures)
