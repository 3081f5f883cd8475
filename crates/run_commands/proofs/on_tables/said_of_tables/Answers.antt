use Rattle.std.proofs.Common.{◌≡◌, None, Err, inl, inr, ap, subst}
use Rattle.command_words.specs.Views.{table_view}
use Rattle.run_status.specs.declared.stop.Stop.TheVariants as stop
use Rattle.desk_opening.specs.declared.unopened.Unopened.TheVariants as unopened
use Rattle.run_commands.proofs.Devices.{counts_for, counts_then, shelf_then, shelf_for, unsaid_stop, unsaid_keeper, unsaid_back, keeper_back, err_one, ok_is_not_err}
use Rattle.run_commands.proofs.Over.{tables_over, tables_unopened, unopened_spoken, spoken_uttered}
use Rattle.run_commands.proofs.on_tables.said_of_tables.Goals as goal

pub said_over-requires : goal.said_over-requires
said_over-requires g c = c.in-Ok.ensures.opened.mirrors

pub returns-in-Ok-clause-answers : goal.returns-in-Ok-clause-answers
returns-in-Ok-clause-answers g c =
    let opened = c.in-Ok.ensures.opened in
    let over = c.said_over.ensures.over opened.opening opened.stands in (
      g.K.Keeper.told c.open_desk.new.keeper,
      record { same = c.in-Ok.ensures.keeper.same; telling = over.telling },
      tables_over (g.H.Shelf.files c.args.shelf.now) (g.H.Shelf.files c.open_desk.new.shelf) (g.K.Keeper.told c.open_desk.new.keeper) (g.K.Keeper.told c.said_over.new.keeper)
          (g.K.Keeper.faults c.args.keeper.now) (g.K.Keeper.faults c.open_desk.new.keeper) (g.K.Keeper.faults c.said_over.new.keeper) (table_view c.args.command) opened.opening c.said_over.result
          c.in-Ok.ensures.shelf.kept (c.in-Ok.ensures.keeper.counts.steady (ok_is_not_err c.in-Ok.desk unopened.KeeperFault)) opened.is_opening over,
    )

pub returns-in-Ok-clause-spoken : goal.returns-in-Ok-clause-spoken
returns-in-Ok-clause-spoken g c = c.said_over.ensures.spoken c.in-Ok.ensures.opened.opening c.in-Ok.ensures.opened.stands

pub returns-in-Ok-clause-shelf : goal.returns-in-Ok-clause-shelf
returns-in-Ok-clause-shelf g c = shelf_then _ _ _ _ _ _ _ _ _ _ (ok_is_not_err c.in-Ok.desk (unopened.Stop stop.ShelfFault)) c.in-Ok.ensures.shelf c.said_over.ensures.shelf

pub returns-in-Ok-clause-keeper : goal.returns-in-Ok-clause-keeper
returns-in-Ok-clause-keeper g c =
    counts_then _ _ _ _ _ _ _ c.in-Ok.ensures.keeper.counts
    (counts_for _ _ _ _ _ _ (λ is. is) (λ none makes. none (inl makes)) c.said_over.ensures.keeper) (ok_is_not_err c.in-Ok.desk unopened.KeeperFault)

pub returns-in-Err-clause-answers : goal.returns-in-Err-clause-answers
returns-in-Err-clause-answers g c = (
  g.K.Keeper.told c.open_desk.new.keeper,
  record { same = c.in-Err.ensures.keeper.same; telling = λ t. t },
  tables_unopened (g.H.Shelf.files c.args.shelf.now) (g.K.Keeper.told c.open_desk.new.keeper) (g.K.Keeper.faults c.args.keeper.now) (g.K.Keeper.faults c.open_desk.new.keeper) (table_view c.args.command) c.in-Err.why c.unopened.result
      c.in-Err.ensures.unopened c.unopened.ensures,
)

pub returns-in-Err-clause-spoken : goal.returns-in-Err-clause-spoken
returns-in-Err-clause-spoken g c =
    spoken_uttered c.unopened.result (unopened_spoken (g.H.Shelf.files c.args.shelf.now) None (g.K.Keeper.told c.open_desk.new.keeper) c.a_run_begins_or_not.ensures.spoken c.in-Err.why c.unopened.result c.in-Err.ensures.unopened c.unopened.ensures)

pub returns-in-Err-clause-shelf : goal.returns-in-Err-clause-shelf
returns-in-Err-clause-shelf g c =
    shelf_for _ _ _ _ _ _ _ _ (λ is. ap Err (unsaid_stop c.in-Err.why c.unopened.result stop.ShelfFault c.unopened.ensures is))
    (λ none is. none (unsaid_back c.in-Err.why c.unopened.result stop.ShelfFault c.unopened.ensures (err_one is))) c.in-Err.ensures.shelf

pub returns-in-Err-clause-keeper : goal.returns-in-Err-clause-keeper
returns-in-Err-clause-keeper g c =
    counts_for _ _ _ _ _ _ (λ is. ap Err (unsaid_keeper c.in-Err.why c.unopened.result c.unopened.ensures is))
    (λ none is. none (inr (keeper_back c.in-Err.why c.unopened.result c.unopened.ensures (err_one is)))) c.in-Err.ensures.keeper.counts
