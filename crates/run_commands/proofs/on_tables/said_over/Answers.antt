use Rattle.std.proofs.Common.{◌≡◌, IfOk, Result, Err, sym, ap, subst, arith, ◌∙◌}
use Rattle.gk_io.specs.Devices.{Counts}
use Rattle.command_words.specs.Table as table
use Rattle.command_words.specs.Views.{table_view}
use Rattle.desk_state.specs.Failures.{kept_by}
use Rattle.run_status.specs.declared.stop.Stop.TheVariants as stop
use Rattle.run_commands.specs.declared.halt.Halt.TheVariants as halt
use Rattle.run_commands.specs.Over.{MakesEdits, OverDesk}
use Rattle.run_commands.proofs.Devices.{still_shelf, counts_moved, counts_unmoved, memory_not}
use Rattle.run_commands.proofs.Over.{look_over}
use Rattle.run_commands.proofs.on_tables.said_over.Goals as goal

pub edit_over-requires : goal.edit_over-requires
edit_over-requires g c = c.requires

pub import_over-requires : goal.import_over-requires
import_over-requires g c = c.requires

pub returns-in-Edit-clause-over : goal.returns-in-Edit-clause-over
returns-in-Edit-clause-over g c o stands = subst (λ command. OverDesk (g.H.Shelf.files c.args.shelf.now) (g.K.Keeper.told c.args.keeper.now) (kept_by (g.K.Keeper.told c.edit_over.new.keeper) (g.K.Keeper.faults c.args.keeper.now) (g.K.Keeper.faults c.edit_over.new.keeper)) command o c.edit_over.result) (sym (ap table_view c.in-Edit.is)) (subst (λ line. OverDesk (g.H.Shelf.files c.args.shelf.now) (g.K.Keeper.told c.args.keeper.now) (kept_by (g.K.Keeper.told c.edit_over.new.keeper) (g.K.Keeper.faults c.args.keeper.now) (g.K.Keeper.faults c.edit_over.new.keeper)) (table.edit line) o c.edit_over.result) c.as_slice.ensures (c.edit_over.ensures.over o (g.H.Shelf.files c.args.shelf.now) stands))

pub returns-in-Edit-clause-keeper : goal.returns-in-Edit-clause-keeper
returns-in-Edit-clause-keeper g c =
    subst (λ command. Counts (c.edit_over.result ≡ Err halt.KeeperFault) (MakesEdits command) (g.K.Keeper.faults c.args.keeper.now) (g.K.Keeper.faults c.edit_over.new.keeper)) (sym (ap table_view c.in-Edit.is))
    (counts_moved _ _ _ _ c.edit_over.ensures.later (memory_not c.edit_over.result c.edit_over.ensures.halts halt.KeeperFault (λ e. (cc))) tt)

pub returns-in-Import-clause-over : goal.returns-in-Import-clause-over
returns-in-Import-clause-over g c o stands = subst (λ command. OverDesk (g.H.Shelf.files c.args.shelf.now) (g.K.Keeper.told c.args.keeper.now) (kept_by (g.K.Keeper.told c.import_over.new.keeper) (g.K.Keeper.faults c.args.keeper.now) (g.K.Keeper.faults c.import_over.new.keeper)) command o c.import_over.result) (sym (ap table_view c.in-Import.is)) (c.import_over.ensures.over o stands)

pub returns-in-Import-clause-keeper : goal.returns-in-Import-clause-keeper
returns-in-Import-clause-keeper g c =
    subst (λ command. Counts (c.import_over.result ≡ Err halt.KeeperFault) (MakesEdits command) (g.K.Keeper.faults c.args.keeper.now) (g.K.Keeper.faults c.import_over.new.keeper)) (sym (ap table_view c.in-Import.is))
    (counts_moved _ _ _ _ c.import_over.ensures.later c.import_over.ensures.no_keeper tt)

pub returns-in-Edit-clause-shelf : goal.returns-in-Edit-clause-shelf
returns-in-Edit-clause-shelf g c = still_shelf _ _ _ _ (memory_not c.edit_over.result c.edit_over.ensures.halts (halt.Stop stop.ShelfFault) (λ e. (cc)))

pub returns-in-Status-clause-over : goal.returns-in-Status-clause-over
returns-in-Status-clause-over g c o stands =
    subst (λ command. OverDesk (g.H.Shelf.files c.args.shelf.now) (g.K.Keeper.told c.args.keeper.now) (kept_by (g.K.Keeper.told c.args.keeper.now) (g.K.Keeper.faults c.args.keeper.now) (g.K.Keeper.faults c.args.keeper.now)) command o c.status_over.result) (sym (ap table_view c.in-Status.is))
    (look_over (g.H.Shelf.files c.args.shelf.now) (g.K.Keeper.told c.args.keeper.now) (g.K.Keeper.faults c.args.keeper.now) (g.K.Keeper.faults c.args.keeper.now) table.status o c.status_over.result (c.status_over.ensures.says o stands) c.status_over.ensures.halts)

pub returns-in-Status-clause-shelf : goal.returns-in-Status-clause-shelf
returns-in-Status-clause-shelf g c = still_shelf _ _ _ _ (memory_not c.status_over.result c.status_over.ensures.halts (halt.Stop stop.ShelfFault) (λ e. (cc)))

pub returns-in-Status-clause-keeper : goal.returns-in-Status-clause-keeper
returns-in-Status-clause-keeper g c = counts_unmoved _ _ _ (memory_not c.status_over.result c.status_over.ensures.halts halt.KeeperFault (λ e. (cc)))

pub returns-in-List-clause-over : goal.returns-in-List-clause-over
returns-in-List-clause-over g c o stands =
    subst (λ command. OverDesk (g.H.Shelf.files c.args.shelf.now) (g.K.Keeper.told c.args.keeper.now) (kept_by (g.K.Keeper.told c.args.keeper.now) (g.K.Keeper.faults c.args.keeper.now) (g.K.Keeper.faults c.args.keeper.now)) command o c.list_over.result) (sym (ap table_view c.in-List.is))
    (look_over (g.H.Shelf.files c.args.shelf.now) (g.K.Keeper.told c.args.keeper.now) (g.K.Keeper.faults c.args.keeper.now) (g.K.Keeper.faults c.args.keeper.now) table.list o c.list_over.result (c.list_over.ensures.says o stands) c.list_over.ensures.halts)

pub returns-in-List-clause-shelf : goal.returns-in-List-clause-shelf
returns-in-List-clause-shelf g c = still_shelf _ _ _ _ (memory_not c.list_over.result c.list_over.ensures.halts (halt.Stop stop.ShelfFault) (λ e. (cc)))

pub returns-in-List-clause-keeper : goal.returns-in-List-clause-keeper
returns-in-List-clause-keeper g c = counts_unmoved _ _ _ (memory_not c.list_over.result c.list_over.ensures.halts halt.KeeperFault (λ e. (cc)))
