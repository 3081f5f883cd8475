use Rattle.rule_edits.specs.Edit.{edit_of}
use Rattle.desk_state.specs.Plan.{with_plan}
use Rattle.desk_state.specs.Stands.{tables, facts_of, plain}
use Rattle.desk_state.proofs.Made.{stays_own}
use Rattle.desk_state.proofs.Edited.{stays_kept, planned_tables}
use Rattle.desk_state.proofs.StaysFresh.{planned_fresh}
use Rattle.desk_state.proofs.desk.Desk.accept.Goals as goal

pub carry_out-requires-clause-own : goal.carry_out-requires-clause-own
carry_out-requires-clause-own g c =
    let t = tables c.args.self.now in
    let e = edit_of c.args.edit.now in
    let ready = c.in_ok-ready.ready in
    stays_own c.ids_stay_own.ensures.kept (facts_of c.args.self.now) t (with_plan ready.plan ready.receipt t) e c.args.self.now.own_ids c.requires.new c.in_ok-ready.ensures.ready.accepted (planned_tables t e ready c.in_ok-ready.ensures.ready)

pub carry_out-requires-clause-kept : goal.carry_out-requires-clause-kept
carry_out-requires-clause-kept g c =
    let t = tables c.args.self.now in
    let e = edit_of c.args.edit.now in
    let ready = c.in_ok-ready.ready in
    stays_kept c.stored_tables.ensures.edit t (with_plan ready.plan ready.receipt t) e c.args.self.now.kept c.edit_fits.ensures c.requires.new c.in_ok-ready.ensures.ready.accepted (planned_tables t e ready c.in_ok-ready.ensures.ready)

pub carry_out-requires-clause-fresh : goal.carry_out-requires-clause-fresh
carry_out-requires-clause-fresh g c =
    planned_fresh c.a_desk_is_fresh.ensures.edit c.first_ranks_purge.ensures.marks c.first_ranks_purge.ensures.rings (plain c.args.self.now) (edit_of c.args.edit.now) c.in_ok-ready.ready c.args.self.now.own_ids c.requires.new c.in_ok-ready.ensures.ready c.args.self.now.fresh
