-- A command line ends as its command does, and asks what its command asks.
use Rattle.std.proofs.Common.{◌≡◌, refl, sym, ap, subst}
use Rattle.gk_io.specs.Devices.{Counts, PassesClock, PassesShelf}
use Rattle.command_words.specs.Table as table
use Rattle.command_words.specs.Views.{line_view, command_view, file_view, table_view, text_of}
use Rattle.run_status.specs.declared.status.Status.TheVariants.{ReadFault, ShelfFault, ClockFault, KeeperFault, SessionTooLong}
use Rattle.desk_state.specs.Failures.{kept_by}
use Rattle.spctl_cli.specs.Conclusions.{tally_of}
use Rattle.spctl_cli.specs.Statuses.{IsOfCommand, IsOfSession, IsRehearsed, AsksInput, AsksShelf, AsksKeeper, AsksClock, LoadsTables, MayHide}
use Rattle.spctl_cli.proofs.Runs.{by_command}
use Rattle.spctl_cli.proofs.Concluded.{counts_for}
use Rattle.spctl_cli.proofs.Devices.{counts_still, source_still, source_for, shelf_still, shelf_for, clock_still}
use Rattle.spctl_cli.proofs.Own.{files_not_past, files_not_read, tables_not_past, tables_not_read, tables_not_clock, asks_whichever, leaves_keeper, leaves_clock}
use Rattle.spctl_cli.proofs.Starved.{loaded_same, loaded_last}
use Rattle.spctl_cli.proofs.obeying.obey_line.Goals as goal

pub returns-in-Session-clause-ends : goal.returns-in-Session-clause-ends
returns-in-Session-clause-ends g c =
    let e = c.session.ensures.ends (g.C.Clock.faults c.args.clock.now) in (
      e.0,
      e.1,
      by_command (g.H.Shelf.files c.args.shelf.now) (g.C.Clock.moments c.args.clock.now) (e.0) (kept_by (g.K.Keeper.told c.session.new.keeper) (g.K.Keeper.faults c.args.keeper.now) (g.K.Keeper.faults c.session.new.keeper)) (tally_of (g.H.Shelf.faults c.args.shelf.now) (g.H.Shelf.faults c.session.new.shelf) (g.K.Keeper.faults c.args.keeper.now) (g.K.Keeper.faults c.session.new.keeper) (g.C.Clock.faults c.args.clock.now) (g.C.Clock.faults c.args.clock.now)) (g.S.Source.left c.args.input.now) (g.S.Source.left c.session.new.input) (g.W.Sink.written c.args.output.now) (g.W.Sink.written c.session.new.output) c.session.result (line_view c.args.line)
          (table.session) (ap command_view c.in-Session.is) (e.2),
    )

pub returns-in-Session-clause-own : goal.returns-in-Session-clause-own
returns-in-Session-clause-own g c = subst (λ command. IsOfCommand command c.session.result) (sym (ap command_view c.in-Session.is)) c.session.ensures.own

pub returns-in-Session-clause-input : goal.returns-in-Session-clause-input
returns-in-Session-clause-input g c = source_for _ _ _ _ _ _ _ _ (λ is. is) (λ none may. none (subst AsksInput (sym (ap command_view c.in-Session.is)) tt, may)) c.session.ensures.input

pub returns-in-Session-clause-shelf : goal.returns-in-Session-clause-shelf
returns-in-Session-clause-shelf g c = shelf_for _ _ _ _ _ _ _ _ (λ is. is) (λ none may. none (subst (AsksShelf (text_of c.args.line.facts)) (sym (ap command_view c.in-Session.is)) may.0, may.1)) c.session.ensures.shelf

pub returns-in-Session-clause-keeper : goal.returns-in-Session-clause-keeper
returns-in-Session-clause-keeper g c = counts_for _ _ _ _ _ _ (λ is. is) (λ none may. none (subst (λ command. AsksKeeper command c.session.result) (sym (ap command_view c.in-Session.is)) tt)) c.session.ensures.keeper

pub returns-in-Session-clause-clock : goal.returns-in-Session-clause-clock
returns-in-Session-clause-clock g c = clock_still _ _ _ _ (λ is. subst IsOfSession is c.session.ensures.own)

pub returns-in-Session-clause-untouched : goal.returns-in-Session-clause-untouched
returns-in-Session-clause-untouched g c = record { keeper = λ none. absurd (none (subst LoadsTables (sym (ap command_view c.in-Session.is)) tt)); clock = λ none. refl }

pub returns-in-OnFiles-clause-ends : goal.returns-in-OnFiles-clause-ends
returns-in-OnFiles-clause-ends g c = (
  g.K.Keeper.told c.on_files.new.keeper,
  loaded_last (g.K.Keeper.told c.args.keeper.now) (g.K.Keeper.told c.on_files.new.keeper) c.on_files.ensures.keeper.same,
  by_command (g.H.Shelf.files c.args.shelf.now) (g.C.Clock.moments c.args.clock.now) (g.K.Keeper.told c.on_files.new.keeper) (kept_by (g.K.Keeper.told c.on_files.new.keeper) (g.K.Keeper.faults c.args.keeper.now) (g.K.Keeper.faults c.on_files.new.keeper)) (tally_of (g.H.Shelf.faults c.args.shelf.now) (g.H.Shelf.faults c.on_files.new.shelf) (g.K.Keeper.faults c.args.keeper.now) (g.K.Keeper.faults c.on_files.new.keeper) (g.C.Clock.faults c.args.clock.now) (g.C.Clock.faults c.on_files.new.clock)) (g.S.Source.left c.args.input.now) (g.S.Source.left c.args.input.now) (g.W.Sink.written c.args.output.now) (g.W.Sink.written c.on_files.new.output) c.on_files.result (line_view c.args.line)
      (table.on_files (file_view c.in-OnFiles.command)) (ap command_view c.in-OnFiles.is) (c.on_files.ensures.ends (g.S.Source.left c.args.input.now)),
)

pub returns-in-OnFiles-clause-own : goal.returns-in-OnFiles-clause-own
returns-in-OnFiles-clause-own g c = subst (λ command. IsOfCommand command c.on_files.result) (sym (ap command_view c.in-OnFiles.is)) c.on_files.ensures.own

pub returns-in-OnFiles-clause-within : goal.returns-in-OnFiles-clause-within
returns-in-OnFiles-clause-within g c bytes left within is = files_not_past (file_view c.in-OnFiles.command) (subst (IsOfCommand (table.on_files (file_view c.in-OnFiles.command))) is c.on_files.ensures.own)

pub returns-in-OnFiles-clause-input : goal.returns-in-OnFiles-clause-input
returns-in-OnFiles-clause-input g c = source_still _ _ _ _ (λ is. files_not_read (file_view c.in-OnFiles.command) (subst (IsOfCommand (table.on_files (file_view c.in-OnFiles.command))) is c.on_files.ensures.own))

pub returns-in-OnFiles-clause-shelf : goal.returns-in-OnFiles-clause-shelf
returns-in-OnFiles-clause-shelf g c =
    shelf_for _ _ _ _ _ _ _ _ (λ is. is) (λ none may. none (subst (AsksShelf (text_of c.args.line.facts)) (sym (ap command_view c.in-OnFiles.is)) may.0, may.1)) c.on_files.ensures.shelf

pub returns-in-OnFiles-clause-keeper : goal.returns-in-OnFiles-clause-keeper
returns-in-OnFiles-clause-keeper g c =
    counts_for _ _ _ _ _ _ (λ is. is) (λ none may. none (subst (λ command. AsksKeeper command c.on_files.result) (sym (ap command_view c.in-OnFiles.is)) may)) c.on_files.ensures.keeper.counts

pub returns-in-OnFiles-clause-clock : goal.returns-in-OnFiles-clause-clock
returns-in-OnFiles-clause-clock g c = record {
  telling = c.on_files.ensures.clock.telling;
  counts = counts_for _ _ _ _ _ _ (λ is. is) (λ none may. none (subst AsksClock (sym (ap command_view c.in-OnFiles.is)) may.0, may.1)) c.on_files.ensures.clock.counts;
}

pub returns-in-OnFiles-clause-untouched : goal.returns-in-OnFiles-clause-untouched
returns-in-OnFiles-clause-untouched g c = record {
  keeper = λ none. leaves_keeper (file_view c.in-OnFiles.command) _ _ _ _ c.on_files.ensures.leaves (λ loads. none (subst LoadsTables (sym (ap command_view c.in-OnFiles.is)) loads));
  clock = λ none. leaves_clock (file_view c.in-OnFiles.command) _ _ _ _ c.on_files.ensures.leaves (λ asks. none (subst AsksClock (sym (ap command_view c.in-OnFiles.is)) asks));
}

pub returns-in-OnTables-clause-ends : goal.returns-in-OnTables-clause-ends
returns-in-OnTables-clause-ends g c =
    let e = c.on_tables.ensures.ends (g.S.Source.left c.args.input.now) (g.C.Clock.faults c.args.clock.now) in (
      e.0,
      e.1,
      by_command (g.H.Shelf.files c.args.shelf.now) (g.C.Clock.moments c.args.clock.now) (e.0) (kept_by (g.K.Keeper.told c.on_tables.new.keeper) (g.K.Keeper.faults c.args.keeper.now) (g.K.Keeper.faults c.on_tables.new.keeper)) (tally_of (g.H.Shelf.faults c.args.shelf.now) (g.H.Shelf.faults c.on_tables.new.shelf) (g.K.Keeper.faults c.args.keeper.now) (g.K.Keeper.faults c.on_tables.new.keeper) (g.C.Clock.faults c.args.clock.now) (g.C.Clock.faults c.args.clock.now)) (g.S.Source.left c.args.input.now) (g.S.Source.left c.args.input.now) (g.W.Sink.written c.args.output.now) (g.W.Sink.written c.on_tables.new.output) c.on_tables.result (line_view c.args.line)
          (table.on_tables (table_view c.in-OnTables.command)) (ap command_view c.in-OnTables.is) (e.2),
    )

pub returns-in-OnTables-clause-own : goal.returns-in-OnTables-clause-own
returns-in-OnTables-clause-own g c = subst (λ command. IsOfCommand command c.on_tables.result) (sym (ap command_view c.in-OnTables.is)) c.on_tables.ensures.own

pub returns-in-OnTables-clause-within : goal.returns-in-OnTables-clause-within
returns-in-OnTables-clause-within g c bytes left within is = tables_not_past (table_view c.in-OnTables.command) (subst (IsOfCommand (table.on_tables (table_view c.in-OnTables.command))) is c.on_tables.ensures.own)

pub returns-in-OnTables-clause-input : goal.returns-in-OnTables-clause-input
returns-in-OnTables-clause-input g c = source_still _ _ _ _ (λ is. tables_not_read (table_view c.in-OnTables.command) (subst (IsOfCommand (table.on_tables (table_view c.in-OnTables.command))) is c.on_tables.ensures.own))

pub returns-in-OnTables-clause-shelf : goal.returns-in-OnTables-clause-shelf
returns-in-OnTables-clause-shelf g c =
    shelf_for _ _ _ _ _ _ _ _ (λ is. is) (λ none may. none (subst (AsksShelf (text_of c.args.line.facts)) (sym (ap command_view c.in-OnTables.is)) (asks_whichever (text_of c.args.line.facts) (table_view c.in-OnTables.command) may.0), may.1)) c.on_tables.ensures.shelf

pub returns-in-OnTables-clause-keeper : goal.returns-in-OnTables-clause-keeper
returns-in-OnTables-clause-keeper g c =
    counts_for _ _ _ _ _ _ (λ is. is) (λ none may. none (subst (λ command. AsksKeeper command c.on_tables.result) (sym (ap command_view c.in-OnTables.is)) may)) c.on_tables.ensures.keeper

pub returns-in-OnTables-clause-clock : goal.returns-in-OnTables-clause-clock
returns-in-OnTables-clause-clock g c = clock_still _ _ _ _ (λ is. tables_not_clock (table_view c.in-OnTables.command) (subst (IsOfCommand (table.on_tables (table_view c.in-OnTables.command))) is c.on_tables.ensures.own))

pub returns-in-OnTables-clause-untouched : goal.returns-in-OnTables-clause-untouched
returns-in-OnTables-clause-untouched g c = record { keeper = λ none. absurd (none (subst LoadsTables (sym (ap command_view c.in-OnTables.is)) tt)); clock = λ none. refl }

pub returns-in-Rehearse-clause-ends : goal.returns-in-Rehearse-clause-ends
returns-in-Rehearse-clause-ends g c = (
  g.K.Keeper.told c.args.keeper.now,
  loaded_same (g.K.Keeper.told c.args.keeper.now),
  by_command (g.H.Shelf.files c.args.shelf.now) (g.C.Clock.moments c.args.clock.now) (g.K.Keeper.told c.args.keeper.now) (kept_by (g.K.Keeper.told c.args.keeper.now) (g.K.Keeper.faults c.args.keeper.now) (g.K.Keeper.faults c.args.keeper.now)) (tally_of (g.H.Shelf.faults c.args.shelf.now) (g.H.Shelf.faults c.args.shelf.now) (g.K.Keeper.faults c.args.keeper.now) (g.K.Keeper.faults c.args.keeper.now) (g.C.Clock.faults c.args.clock.now) (g.C.Clock.faults c.args.clock.now)) (g.S.Source.left c.args.input.now) (g.S.Source.left c.args.input.now) (g.W.Sink.written c.args.output.now) (g.W.Sink.written c.on_rehearsal.new.output) c.on_rehearsal.result (line_view c.args.line)
      (table.rehearse c.in-Rehearse.steps) (ap command_view c.in-Rehearse.is) (c.on_rehearsal.ensures.ends (g.S.Source.left c.args.input.now) (tally_of (g.H.Shelf.faults c.args.shelf.now) (g.H.Shelf.faults c.args.shelf.now) (g.K.Keeper.faults c.args.keeper.now) (g.K.Keeper.faults c.args.keeper.now) (g.C.Clock.faults c.args.clock.now) (g.C.Clock.faults c.args.clock.now))),
)

pub returns-in-Rehearse-clause-own : goal.returns-in-Rehearse-clause-own
returns-in-Rehearse-clause-own g c = subst (λ command. IsOfCommand command c.on_rehearsal.result) (sym (ap command_view c.in-Rehearse.is)) c.on_rehearsal.ensures.own

pub returns-in-Rehearse-clause-within : goal.returns-in-Rehearse-clause-within
returns-in-Rehearse-clause-within g c bytes left within is = subst IsRehearsed is c.on_rehearsal.ensures.own

pub returns-in-Rehearse-clause-input : goal.returns-in-Rehearse-clause-input
returns-in-Rehearse-clause-input g c = source_still _ _ _ _ (λ is. subst IsRehearsed is c.on_rehearsal.ensures.own)

pub returns-in-Rehearse-clause-shelf : goal.returns-in-Rehearse-clause-shelf
returns-in-Rehearse-clause-shelf g c = shelf_still _ _ _ _ (λ is. subst IsRehearsed is c.on_rehearsal.ensures.own)

pub returns-in-Rehearse-clause-keeper : goal.returns-in-Rehearse-clause-keeper
returns-in-Rehearse-clause-keeper g c = counts_still _ _ _ (λ is. subst IsRehearsed is c.on_rehearsal.ensures.own)

pub returns-in-Rehearse-clause-clock : goal.returns-in-Rehearse-clause-clock
returns-in-Rehearse-clause-clock g c = clock_still _ _ _ _ (λ is. subst IsRehearsed is c.on_rehearsal.ensures.own)

pub returns-in-Rehearse-clause-untouched : goal.returns-in-Rehearse-clause-untouched
returns-in-Rehearse-clause-untouched g c = record { keeper = λ none. refl; clock = λ none. refl }
