use Rattle.std.proofs.Common.{None, refl}
use Rattle.command_words.specs.Table.{on_tables}
use Rattle.command_words.specs.Views.{table_view}
use Rattle.desk_state.specs.Failures.{kept_by}
use Rattle.run_commands.specs.Over.{MakesEdits}
use Rattle.spctl_cli.specs.Conclusions.{tally_of}
use Rattle.spctl_cli.specs.Statuses.{AsksShelf, AsksKeeper}
use Rattle.spctl_cli.proofs.Concluded.{shelf_ended, keeper_ended}
use Rattle.spctl_cli.proofs.Own.{tables_own, tables_ask_shelf, tables_ask_no_clock, edits_ask_keeper, load_asks_keeper}
use Rattle.spctl_cli.proofs.Unopened.{counted}
use Rattle.spctl_cli.proofs.speaking.on_tables.Goals as goal

pub returns-clause-ends : goal.returns-clause-ends
returns-clause-ends g c left times =
    let said = c.said_of_tables-ended.ensures.answers in
    let kept = kept_by (g.K.Keeper.told c.said_of_tables-ended.new.keeper) (g.K.Keeper.faults c.args.keeper.now) (g.K.Keeper.faults c.said_of_tables-ended.new.keeper) in (
      said.0,
      said.1,
      record {
        unread = refl;
        answer = c.said_of_tables-ended.result;
        answers = said.2;
        counted = counted c.said_of_tables-ended.result
            (tally_of (g.H.Shelf.faults c.args.shelf.now) (g.H.Shelf.faults c.said_of_tables-ended.new.shelf) (g.K.Keeper.faults c.args.keeper.now) (g.K.Keeper.faults c.said_of_tables-ended.new.keeper) times times)
            c.said_of_tables-ended.ensures.shelf.counts.cause (λ is. absurd (tables_ask_no_clock (g.H.Shelf.files c.args.shelf.now) said.0 kept (table_view c.args.command) c.said_of_tables-ended.result said.2 is))
            c.said_of_tables-ended.ensures.keeper.cause;
        concludes = c.conclude.ensures.ends;
      },
    )

pub returns-clause-own : goal.returns-clause-own
returns-clause-own g c =
    let said = c.said_of_tables-ended.ensures.answers in
    tables_own c.said_of_tables-ended.result (g.H.Shelf.files c.args.shelf.now) said.0 (kept_by (g.K.Keeper.told c.said_of_tables-ended.new.keeper) (g.K.Keeper.faults c.args.keeper.now) (g.K.Keeper.faults c.said_of_tables-ended.new.keeper)) (table_view c.args.command)
    _ _ c.conclude.result said.2 c.conclude.ensures.ends

pub returns-clause-shelf : goal.returns-clause-shelf
returns-clause-shelf g c =
    let said = c.said_of_tables-ended.ensures.answers in
    shelf_ended c.said_of_tables-ended.result c.said_of_tables-ended.ensures.spoken _ _ c.conclude.result c.conclude.ensures.ends
    (AsksShelf None (on_tables (table_view c.args.command))) _ _ _ _
    (tables_ask_shelf (g.H.Shelf.files c.args.shelf.now) said.0 (kept_by (g.K.Keeper.told c.said_of_tables-ended.new.keeper) (g.K.Keeper.faults c.args.keeper.now) (g.K.Keeper.faults c.said_of_tables-ended.new.keeper)) (table_view c.args.command) c.said_of_tables-ended.result said.2)
    c.said_of_tables-ended.ensures.shelf

pub returns-clause-keeper : goal.returns-clause-keeper
returns-clause-keeper g c =
    keeper_ended c.said_of_tables-ended.result c.said_of_tables-ended.ensures.spoken _ _ c.conclude.result c.conclude.ensures.ends
    (MakesEdits (table_view c.args.command)) (AsksKeeper (on_tables (table_view c.args.command)) c.conclude.result) _ _
    (edits_ask_keeper (table_view c.args.command) c.conclude.result) (λ is hidden. load_asks_keeper (table_view c.args.command) c.conclude.result hidden) c.said_of_tables-ended.ensures.keeper
