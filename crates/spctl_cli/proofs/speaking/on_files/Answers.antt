use Rattle.std.proofs.Common.{refl}
use Rattle.command_words.specs.Table.{on_files}
use Rattle.command_words.specs.Views.{file_view, text_of}
use Rattle.spctl_cli.specs.Conclusions.{tally_of}
use Rattle.spctl_cli.specs.Statuses.{AsksShelf, AsksClock, AsksKeeper}
use Rattle.spctl_cli.proofs.Concluded.{spoken_uttered, shelf_ended, clock_ended, keeper_ended_alone}
use Rattle.spctl_cli.proofs.Own.{files_own, files_ask_keeper, files_ask_clock}
use Rattle.spctl_cli.proofs.Starved.{stays_same}
use Rattle.spctl_cli.proofs.Unopened.{counted}
use Rattle.spctl_cli.proofs.speaking.on_files.Goals as goal

pub conclude-requires : goal.conclude-requires
conclude-requires g c = spoken_uttered c.said_of_files-ended.result c.said_of_files-ended.ensures.spoken

pub returns-clause-ends : goal.returns-clause-ends
returns-clause-ends g c left = record {
  spoken = record {
    unread = refl;
    answer = c.said_of_files-ended.result;
    answers = c.said_of_files-ended.ensures.answers;
    counted = counted c.said_of_files-ended.result
        (tally_of (g.H.Shelf.faults c.args.shelf.now) (g.H.Shelf.faults c.said_of_files-ended.new.shelf) (g.K.Keeper.faults c.args.keeper.now) (g.K.Keeper.faults c.said_of_files-ended.new.keeper) (g.C.Clock.faults c.args.clock.now) (g.C.Clock.faults c.said_of_files-ended.new.clock))
        c.said_of_files-ended.ensures.shelf.counts.cause c.said_of_files-ended.ensures.clock.counts.cause c.said_of_files-ended.ensures.keeper.counts.cause;
    concludes = c.conclude.ensures.ends;
  };
  stays = stays_same (g.K.Keeper.told c.said_of_files-ended.new.keeper);
}

pub returns-clause-own : goal.returns-clause-own
returns-clause-own g c =
    files_own c.said_of_files-ended.result (g.H.Shelf.files c.args.shelf.now) (g.C.Clock.moments c.args.clock.now) (g.K.Keeper.told c.said_of_files-ended.new.keeper) (text_of c.args.facts) (file_view c.args.command)
    _ _ c.conclude.result c.said_of_files-ended.ensures.spoken c.said_of_files-ended.ensures.answers c.conclude.ensures.ends

pub returns-clause-shelf : goal.returns-clause-shelf
returns-clause-shelf g c =
    shelf_ended c.said_of_files-ended.result (spoken_uttered c.said_of_files-ended.result c.said_of_files-ended.ensures.spoken) _ _ c.conclude.result c.conclude.ensures.ends
    (AsksShelf (text_of c.args.facts) (on_files (file_view c.args.command))) _ _ _ _ (λ is. tt) c.said_of_files-ended.ensures.shelf

pub returns-clause-keeper : goal.returns-clause-keeper
returns-clause-keeper g c = record {
  same = c.said_of_files-ended.ensures.keeper.same;
  counts = keeper_ended_alone c.said_of_files-ended.result (spoken_uttered c.said_of_files-ended.result c.said_of_files-ended.ensures.spoken) _ _ c.conclude.result c.conclude.ensures.ends
      (AsksKeeper (on_files (file_view c.args.command)) c.conclude.result) _ _
      (files_ask_keeper c.said_of_files-ended.result (g.H.Shelf.files c.args.shelf.now) (g.C.Clock.moments c.args.clock.now) (g.K.Keeper.told c.said_of_files-ended.new.keeper) (text_of c.args.facts) (file_view c.args.command) c.conclude.result c.said_of_files-ended.ensures.answers)
      c.said_of_files-ended.ensures.keeper.counts;
}

pub returns-clause-clock : goal.returns-clause-clock
returns-clause-clock g c =
    clock_ended c.said_of_files-ended.result (spoken_uttered c.said_of_files-ended.result c.said_of_files-ended.ensures.spoken) _ _ c.conclude.result c.conclude.ensures.ends
    (AsksClock (on_files (file_view c.args.command))) _ _ _ _
    (files_ask_clock c.said_of_files-ended.result (g.H.Shelf.files c.args.shelf.now) (g.C.Clock.moments c.args.clock.now) (g.K.Keeper.told c.said_of_files-ended.new.keeper) (text_of c.args.facts) (file_view c.args.command) c.said_of_files-ended.ensures.answers)
    c.said_of_files-ended.ensures.clock
