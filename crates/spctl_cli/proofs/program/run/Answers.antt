-- What is promised of a run follows of how it ends.
use Rattle.command_words.specs.Table.{session}
use Rattle.command_words.specs.Views.{texts}
use Rattle.desk_state.specs.Failures.{kept_by}
use Rattle.spctl_cli.specs.Conclusions.{tally_of}
use Rattle.spctl_cli.specs.Words.{asked, line_on}
use Rattle.spctl_cli.proofs.Caused.{causes}
use Rattle.spctl_cli.proofs.Exactly.{read_exactly, shelf_exactly, clock_exactly, write_exactly}
use Rattle.spctl_cli.proofs.Runs.{usage_exactly, past_exactly, of_line, fine_session}
use Rattle.spctl_cli.proofs.program.run.Goals as goal

pub returns-clause-fine : goal.returns-clause-fine
returns-clause-fine g c store facts is fine =
    let e = c.obey.ensures.ends in
    let f = fine_session (g.H.Shelf.files c.args.shelf.now) (g.C.Clock.moments c.args.clock.now) e.0 (kept_by (g.K.Keeper.told c.obey.new.keeper) (g.K.Keeper.faults c.args.keeper.now) (g.K.Keeper.faults c.obey.new.keeper)) (tally_of (g.H.Shelf.faults c.args.shelf.now) (g.H.Shelf.faults c.obey.new.shelf) (g.K.Keeper.faults c.args.keeper.now) (g.K.Keeper.faults c.obey.new.keeper) (g.C.Clock.faults c.args.clock.now) (g.C.Clock.faults c.obey.new.clock)) (g.S.Source.left c.args.input.now) (g.S.Source.left c.obey.new.input) (g.W.Sink.written c.args.output.now) (g.W.Sink.written c.obey.new.output) c.obey.result c.a_run_begins_or_not.ensures.deskless facts
    (of_line (g.H.Shelf.files c.args.shelf.now) (g.C.Clock.moments c.args.clock.now) e.0 (kept_by (g.K.Keeper.told c.obey.new.keeper) (g.K.Keeper.faults c.args.keeper.now) (g.K.Keeper.faults c.obey.new.keeper)) (tally_of (g.H.Shelf.faults c.args.shelf.now) (g.H.Shelf.faults c.obey.new.shelf) (g.K.Keeper.faults c.args.keeper.now) (g.K.Keeper.faults c.obey.new.keeper) (g.C.Clock.faults c.args.clock.now) (g.C.Clock.faults c.obey.new.clock)) (g.S.Source.left c.args.input.now) (g.S.Source.left c.obey.new.input) (g.W.Sink.written c.args.output.now) (g.W.Sink.written c.obey.new.output) c.obey.result (asked (texts c.args.words.now)) (line_on store facts session) is e.2) fine in
    (e.0, e.1, f.0, f.1, f.2, f.3)

pub returns-clause-ran : goal.returns-clause-ran
returns-clause-ran g c =
    let e = c.obey.ensures.ends in
    record {
      rows = e.0;
      loaded = e.1;
      ends = e.2;
      causes = causes c.a_run_begins_or_not.ensures.apart c.a_run_begins_or_not.ensures.status c.a_run_begins_or_not.ensures.facts_apart c.a_run_begins_or_not.ensures.facts_status
          c.each_command_has_one_status.ensures.told c.each_command_has_one_status.ensures.timeless c.each_table_command_has_one_status.ensures
          (g.H.Shelf.files c.args.shelf.now) (g.C.Clock.moments c.args.clock.now) e.0 (kept_by (g.K.Keeper.told c.obey.new.keeper) (g.K.Keeper.faults c.args.keeper.now) (g.K.Keeper.faults c.obey.new.keeper)) (tally_of (g.H.Shelf.faults c.args.shelf.now) (g.H.Shelf.faults c.obey.new.shelf) (g.K.Keeper.faults c.args.keeper.now) (g.K.Keeper.faults c.obey.new.keeper) (g.C.Clock.faults c.args.clock.now) (g.C.Clock.faults c.obey.new.clock)) (asked (texts c.args.words.now)) (g.S.Source.left c.args.input.now) (g.S.Source.left c.obey.new.input) (g.W.Sink.written c.args.output.now) (g.W.Sink.written c.obey.new.output) c.obey.result c.obey.ensures.within e.2;
    }

pub returns-clause-usage_cause : goal.returns-clause-usage_cause
returns-clause-usage_cause g c a b =
    let e = c.obey.ensures.ends in usage_exactly (g.H.Shelf.files c.args.shelf.now) (g.C.Clock.moments c.args.clock.now) e.0 (kept_by (g.K.Keeper.told c.obey.new.keeper) (g.K.Keeper.faults c.args.keeper.now) (g.K.Keeper.faults c.obey.new.keeper)) (tally_of (g.H.Shelf.faults c.args.shelf.now) (g.H.Shelf.faults c.obey.new.shelf) (g.K.Keeper.faults c.args.keeper.now) (g.K.Keeper.faults c.obey.new.keeper) (g.C.Clock.faults c.args.clock.now) (g.C.Clock.faults c.obey.new.clock)) (g.S.Source.left c.args.input.now) (g.S.Source.left c.obey.new.input) (g.W.Sink.written c.args.output.now) (g.W.Sink.written c.obey.new.output) c.obey.result (asked (texts c.args.words.now)) e.2 c.obey.ensures.own a b

pub returns-clause-too_long_cause : goal.returns-clause-too_long_cause
returns-clause-too_long_cause g c told a b =
    let e = c.obey.ensures.ends in past_exactly (g.H.Shelf.files c.args.shelf.now) (g.C.Clock.moments c.args.clock.now) e.0 (kept_by (g.K.Keeper.told c.obey.new.keeper) (g.K.Keeper.faults c.args.keeper.now) (g.K.Keeper.faults c.obey.new.keeper)) (tally_of (g.H.Shelf.faults c.args.shelf.now) (g.H.Shelf.faults c.obey.new.shelf) (g.K.Keeper.faults c.args.keeper.now) (g.K.Keeper.faults c.obey.new.keeper) (g.C.Clock.faults c.args.clock.now) (g.C.Clock.faults c.obey.new.clock)) (g.S.Source.left c.args.input.now) (g.S.Source.left c.obey.new.input) (g.W.Sink.written c.args.output.now) (g.W.Sink.written c.obey.new.output) c.obey.result c.a_run_begins_or_not.ensures.deskless (asked (texts c.args.words.now)) e.2 c.obey.ensures.own told a b

pub returns-clause-exact : goal.returns-clause-exact
returns-clause-exact g c = (
  read_exactly c.obey.result _ _ _ c.obey.ensures.input.counts,
  shelf_exactly c.obey.result _ _ _ c.obey.ensures.shelf.counts,
  clock_exactly c.obey.result _ _ _ c.obey.ensures.clock.counts,
)

pub returns-clause-write_exact : goal.returns-clause-write_exact
returns-clause-write_exact g c can = write_exactly c.obey.result _ _ c.obey.ensures.output.counts can
