-- Behind the answered lines stands the line that tells of the fault, or a front of it.
use Rattle.std.proofs.Common.{◌≡◌, ◌≢◌, ◌⊎◌, inl, inr, refl, sym, ◌∙◌}
use Rattle.session_model.specs.Session.{begun}
use Rattle.line_reader.specs.Lines.{with_lf}
use Rattle.line_session.specs.Ends.{AtWant}
use Rattle.line_session.specs.declared.ended.Ended.TheVariants as ended
use Rattle.run_status.specs.declared.status.Status.{Status}
use Rattle.run_status.specs.declared.status.Status.TheVariants.{Fine, ReadFault, WriteFault, SessionTooLong, OutOfMemory}
use Rattle.desk_lines.specs.Memory.{TakesMemory}
use Rattle.desk_lines.specs.Answered.{HasAnswered}
use Rattle.desk_state.specs.Failures.{kept_by}
use Rattle.spctl_cli.specs.LastLines.{read_fault_text, too_long_text}
use Rattle.spctl_cli.proofs.Devices.{source_for, sink_for, sink_then}
use Rattle.spctl_cli.proofs.EndsOfSessions.{session_fine, session_stops, session_breaks, read_fault_ends, too_long_ends, at_fine, at_write_fault, at_want, at_read_fault, at_limit, fault_or_write, neither_is}
use Rattle.spctl_cli.proofs.session.over_desk.Goals as goal

pub returns-in-Fine-clause-ends : goal.returns-in-Fine-clause-ends
returns-in-Fine-clause-ends g c o stands =
    session_fine (kept_by (g.K.Keeper.told c.session_lines.new.keeper) (g.K.Keeper.faults c.args.keeper.now) (g.K.Keeper.faults c.session_lines.new.keeper)) o begun c.args.desk.now c.session_lines.new.desk (stands, refl) c.session_lines.ensures.mirrors
    _ _ _ _ (at_fine (HasAnswered c.args.desk.now c.session_lines.new.desk (g.K.Keeper.faults c.args.keeper.now) (g.K.Keeper.faults c.session_lines.new.keeper)) _ _ _ _ c.session_lines.result c.session_lines.ensures.ends c.in-Fine.is)

pub returns-in-WriteFault-clause-ends : goal.returns-in-WriteFault-clause-ends
returns-in-WriteFault-clause-ends g c o stands =
    inl (session_breaks (kept_by (g.K.Keeper.told c.session_lines.new.keeper) (g.K.Keeper.faults c.args.keeper.now) (g.K.Keeper.faults c.session_lines.new.keeper)) o begun c.args.desk.now c.session_lines.new.desk (stands, refl) c.session_lines.ensures.mirrors
    _ _ _ _ (at_write_fault (HasAnswered c.args.desk.now c.session_lines.new.desk (g.K.Keeper.faults c.args.keeper.now) (g.K.Keeper.faults c.session_lines.new.keeper)) _ _ _ _ c.session_lines.result c.session_lines.ensures.ends c.in-WriteFault.is))

pub returns-in-OutOfMemory-clause-ends : goal.returns-in-OutOfMemory-clause-ends
returns-in-OutOfMemory-clause-ends g c o stands =
    session_stops (kept_by (g.K.Keeper.told c.session_lines.new.keeper) (g.K.Keeper.faults c.args.keeper.now) (g.K.Keeper.faults c.session_lines.new.keeper)) o begun c.args.desk.now c.session_lines.new.desk (stands, refl) c.session_lines.ensures.mirrors
    (AtWant TakesMemory) _ _ _ _ (at_want (HasAnswered c.args.desk.now c.session_lines.new.desk (g.K.Keeper.faults c.args.keeper.now) (g.K.Keeper.faults c.session_lines.new.keeper)) _ _ _ _ c.session_lines.result c.session_lines.ensures.ends c.in-OutOfMemory.is)

pub returns-in-ReadFault-clause-ends : goal.returns-in-ReadFault-clause-ends
returns-in-ReadFault-clause-ends g c o stands =
    read_fault_ends (kept_by (g.K.Keeper.told c.session_lines.new.keeper) (g.K.Keeper.faults c.args.keeper.now) (g.K.Keeper.faults c.session_lines.new.keeper)) o begun c.args.desk.now c.session_lines.new.desk (stands, refl) c.session_lines.ensures.mirrors
    _ _ _ _ _ _ (at_read_fault (HasAnswered c.args.desk.now c.session_lines.new.desk (g.K.Keeper.faults c.args.keeper.now) (g.K.Keeper.faults c.session_lines.new.keeper)) _ _ _ _ c.session_lines.result c.session_lines.ensures.ends c.in-ReadFault.is) c.end_with.ensures.put

pub returns-in-TooLong-clause-ends : goal.returns-in-TooLong-clause-ends
returns-in-TooLong-clause-ends g c o stands =
    too_long_ends (kept_by (g.K.Keeper.told c.session_lines.new.keeper) (g.K.Keeper.faults c.args.keeper.now) (g.K.Keeper.faults c.session_lines.new.keeper)) o begun c.args.desk.now c.session_lines.new.desk (stands, refl) c.session_lines.ensures.mirrors
    _ _ _ _ _ _ (at_limit (HasAnswered c.args.desk.now c.session_lines.new.desk (g.K.Keeper.faults c.args.keeper.now) (g.K.Keeper.faults c.session_lines.new.keeper)) _ _ _ _ c.session_lines.result c.session_lines.ensures.ends c.in-TooLong.is) c.end_with-in-TooLong.ensures.put
