use Rattle.std.proofs.Common.{◌≡◌, None, refl, sym, subst}
use Rattle.gk_io.specs.Devices.{Counts, PassesClock, PassesShelf, PassesSource}
use Rattle.command_words.specs.Lines.{line_of}
use Rattle.command_words.specs.Views.{texts}
use Rattle.run_status.specs.declared.status.Status.TheVariants.{ReadFault, ShelfFault, ClockFault, KeeperFault}
use Rattle.desk_opening.specs.Opens.{IsLoaded}
use Rattle.policy_keeper.specs.Told.{Told}
use Rattle.desk_state.specs.Failures.{kept_by}
use Rattle.spctl_cli.specs.Conclusions.{tally_of}
use Rattle.spctl_cli.specs.Ends.{RunEnds}
use Rattle.spctl_cli.specs.Statuses.{IsOwn, IsOfUsage, IsUntouched, MayFailInput, MayFailShelf, MayFailKeeper, MayFailClock}
use Rattle.spctl_cli.proofs.Devices.{counts_still, source_still, shelf_still, clock_still}
use Rattle.spctl_cli.proofs.Starved.{run_starved, starved_own, loaded_same}
use Rattle.spctl_cli.proofs.obeying.obey.Goals as goal

pub returns-in-Ok-clause-ends : goal.returns-in-Ok-clause-ends
returns-in-Ok-clause-ends g c =
    subst (λ line. (rows : Told) × IsLoaded (g.K.Keeper.told c.args.keeper.now) rows (g.K.Keeper.told c.obey_line.new.keeper)
    × RunEnds (g.H.Shelf.files c.args.shelf.now) (g.C.Clock.moments c.args.clock.now) rows (kept_by (g.K.Keeper.told c.obey_line.new.keeper) (g.K.Keeper.faults c.args.keeper.now) (g.K.Keeper.faults c.obey_line.new.keeper)) (tally_of (g.H.Shelf.faults c.args.shelf.now) (g.H.Shelf.faults c.obey_line.new.shelf) (g.K.Keeper.faults c.args.keeper.now) (g.K.Keeper.faults c.obey_line.new.keeper) (g.C.Clock.faults c.args.clock.now) (g.C.Clock.faults c.obey_line.new.clock)) line (g.S.Source.left c.args.input.now) (g.S.Source.left c.obey_line.new.input) (g.W.Sink.written c.args.output.now) (g.W.Sink.written c.obey_line.new.output) c.obey_line.result)
    (sym c.in-Ok.ensures.line) c.obey_line.ensures.ends

pub returns-in-Ok-clause-own : goal.returns-in-Ok-clause-own
returns-in-Ok-clause-own g c = subst (λ line. IsOwn line c.obey_line.result) (sym c.in-Ok.ensures.line) c.obey_line.ensures.own

pub returns-in-Ok-clause-input : goal.returns-in-Ok-clause-input
returns-in-Ok-clause-input g c = subst (λ line. PassesSource (c.obey_line.result ≡ ReadFault) (MayFailInput line c.obey_line.result) (g.S.Source.left c.args.input.now) (g.S.Source.left c.obey_line.new.input) (g.S.Source.faults c.args.input.now) (g.S.Source.faults c.obey_line.new.input)) (sym c.in-Ok.ensures.line) c.obey_line.ensures.input

pub returns-in-Ok-clause-shelf : goal.returns-in-Ok-clause-shelf
returns-in-Ok-clause-shelf g c = subst (λ line. PassesShelf (c.obey_line.result ≡ ShelfFault) (MayFailShelf line c.obey_line.result) (g.H.Shelf.files c.args.shelf.now) (g.H.Shelf.files c.obey_line.new.shelf) (g.H.Shelf.faults c.args.shelf.now) (g.H.Shelf.faults c.obey_line.new.shelf)) (sym c.in-Ok.ensures.line) c.obey_line.ensures.shelf

pub returns-in-Ok-clause-keeper : goal.returns-in-Ok-clause-keeper
returns-in-Ok-clause-keeper g c = subst (λ line. Counts (c.obey_line.result ≡ KeeperFault) (MayFailKeeper line c.obey_line.result) (g.K.Keeper.faults c.args.keeper.now) (g.K.Keeper.faults c.obey_line.new.keeper)) (sym c.in-Ok.ensures.line) c.obey_line.ensures.keeper

pub returns-in-Ok-clause-clock : goal.returns-in-Ok-clause-clock
returns-in-Ok-clause-clock g c = subst (λ line. PassesClock (c.obey_line.result ≡ ClockFault) (MayFailClock line c.obey_line.result) (g.C.Clock.moments c.args.clock.now) (g.C.Clock.moments c.obey_line.new.clock) (g.C.Clock.faults c.args.clock.now) (g.C.Clock.faults c.obey_line.new.clock)) (sym c.in-Ok.ensures.line) c.obey_line.ensures.clock

pub returns-in-Ok-clause-untouched : goal.returns-in-Ok-clause-untouched
returns-in-Ok-clause-untouched g c = subst (λ line. IsUntouched line (g.K.Keeper.told c.args.keeper.now) (g.K.Keeper.told c.obey_line.new.keeper) (g.C.Clock.moments c.args.clock.now) (g.C.Clock.moments c.obey_line.new.clock)) (sym c.in-Ok.ensures.line) c.obey_line.ensures.untouched

pub returns-in-Err-Usage-clause-ends : goal.returns-in-Err-Usage-clause-ends
returns-in-Err-Usage-clause-ends g c = (
  g.K.Keeper.told c.args.keeper.now,
  loaded_same (g.K.Keeper.told c.args.keeper.now),
  subst (λ line. RunEnds (g.H.Shelf.files c.args.shelf.now) (g.C.Clock.moments c.args.clock.now) (g.K.Keeper.told c.args.keeper.now) (kept_by (g.K.Keeper.told c.args.keeper.now) (g.K.Keeper.faults c.args.keeper.now) (g.K.Keeper.faults c.args.keeper.now)) (tally_of (g.H.Shelf.faults c.args.shelf.now) (g.H.Shelf.faults c.args.shelf.now) (g.K.Keeper.faults c.args.keeper.now) (g.K.Keeper.faults c.args.keeper.now) (g.C.Clock.faults c.args.clock.now) (g.C.Clock.faults c.args.clock.now)) line (g.S.Source.left c.args.input.now) (g.S.Source.left c.args.input.now) (g.W.Sink.written c.args.output.now) (g.W.Sink.written c.usage.new.output) c.usage.result)
      (sym (c.in-Err-Usage.ensures.usage c.in-Err-Usage.field-0-is)) (c.usage.ensures.ends (g.S.Source.left c.args.input.now)),
)

pub returns-in-Err-Usage-clause-own : goal.returns-in-Err-Usage-clause-own
returns-in-Err-Usage-clause-own g c = subst (λ line. IsOwn line c.usage.result) (sym (c.in-Err-Usage.ensures.usage c.in-Err-Usage.field-0-is)) c.usage.ensures.own

pub returns-in-Err-Usage-clause-within : goal.returns-in-Err-Usage-clause-within
returns-in-Err-Usage-clause-within g c bytes left within is = subst IsOfUsage is c.usage.ensures.own

pub returns-in-Err-Usage-clause-input : goal.returns-in-Err-Usage-clause-input
returns-in-Err-Usage-clause-input g c = source_still _ _ _ _ (λ is. subst IsOfUsage is c.usage.ensures.own)

pub returns-in-Err-Usage-clause-shelf : goal.returns-in-Err-Usage-clause-shelf
returns-in-Err-Usage-clause-shelf g c = shelf_still _ _ _ _ (λ is. subst IsOfUsage is c.usage.ensures.own)

pub returns-in-Err-Usage-clause-keeper : goal.returns-in-Err-Usage-clause-keeper
returns-in-Err-Usage-clause-keeper g c = counts_still _ _ _ (λ is. subst IsOfUsage is c.usage.ensures.own)

pub returns-in-Err-Usage-clause-clock : goal.returns-in-Err-Usage-clause-clock
returns-in-Err-Usage-clause-clock g c = clock_still _ _ _ _ (λ is. subst IsOfUsage is c.usage.ensures.own)

pub returns-in-Err-Usage-clause-untouched : goal.returns-in-Err-Usage-clause-untouched
returns-in-Err-Usage-clause-untouched g c = record { keeper = λ none. refl; clock = λ none. refl }

pub returns-in-Err-OutOfMemory-clause-ends : goal.returns-in-Err-OutOfMemory-clause-ends
returns-in-Err-OutOfMemory-clause-ends g c = (
  g.K.Keeper.told c.args.keeper.now,
  loaded_same (g.K.Keeper.told c.args.keeper.now),
  run_starved (g.H.Shelf.files c.args.shelf.now) (g.C.Clock.moments c.args.clock.now) (kept_by (g.K.Keeper.told c.args.keeper.now) (g.K.Keeper.faults c.args.keeper.now) (g.K.Keeper.faults c.args.keeper.now)) (tally_of (g.H.Shelf.faults c.args.shelf.now) (g.H.Shelf.faults c.args.shelf.now) (g.K.Keeper.faults c.args.keeper.now) (g.K.Keeper.faults c.args.keeper.now) (g.C.Clock.faults c.args.clock.now) (g.C.Clock.faults c.args.clock.now)) (g.S.Source.left c.args.input.now) (g.W.Sink.written c.args.output.now) (line_of (texts c.args.words.now)),
)

pub returns-in-Err-OutOfMemory-clause-own : goal.returns-in-Err-OutOfMemory-clause-own
returns-in-Err-OutOfMemory-clause-own g c = starved_own (line_of (texts c.args.words.now))

pub returns-in-Err-OutOfMemory-clause-untouched : goal.returns-in-Err-OutOfMemory-clause-untouched
returns-in-Err-OutOfMemory-clause-untouched g c = record { keeper = λ none. refl; clock = λ none. refl }

pub returns-in-Err-OutOfMemory-clause-input : goal.returns-in-Err-OutOfMemory-clause-input
returns-in-Err-OutOfMemory-clause-input g c = source_still _ _ _ _ (λ is. (cc))

pub returns-in-Err-OutOfMemory-clause-shelf : goal.returns-in-Err-OutOfMemory-clause-shelf
returns-in-Err-OutOfMemory-clause-shelf g c = shelf_still _ _ _ _ (λ is. (cc))

pub returns-in-Err-OutOfMemory-clause-keeper : goal.returns-in-Err-OutOfMemory-clause-keeper
returns-in-Err-OutOfMemory-clause-keeper g c = counts_still _ _ _ (λ is. (cc))

pub returns-in-Err-OutOfMemory-clause-clock : goal.returns-in-Err-OutOfMemory-clause-clock
returns-in-Err-OutOfMemory-clause-clock g c = clock_still _ _ _ _ (λ is. (cc))
