use Rattle.std.proofs.Common.{◌≡◌, [], IfOk, IfErr}
use Rattle.std.specs.Prelude.{OnErr}
use Rattle.policy_keeper.specs.Told.{Stays}
use Rattle.table_commands.specs.ImportSays.{SaysImport}
use Rattle.desk_state.specs.Failures.{kept_by}
use Rattle.run_status.specs.declared.stop.Stop.TheVariants as stop
use Rattle.command_words.specs.Table as table
use Rattle.run_commands.specs.Says.{TableSays}
use Rattle.run_commands.specs.Spoken.{IsUttered}
use Rattle.run_commands.proofs.Devices.{shelf_halted, halted_not_keeper}
use Rattle.run_commands.proofs.Over.{does, map_ok, import_over, import_uttered, left_so, halted_ok, halted_err, err_left}
use Rattle.run_commands.proofs.on_tables.import_over.Goals as goal

pub returns-clause-over : goal.returns-clause-over
returns-clause-over g c o stands =
    let kept = kept_by (g.K.Keeper.told c.import-said.new.keeper) (g.K.Keeper.faults c.args.keeper.now) (g.K.Keeper.faults c.import-said.new.keeper) in
    let files = g.H.Shelf.files c.args.shelf.now in
    let name = c.args.name.now in
    import_over files (g.K.Keeper.told c.args.keeper.now) kept name o c.import-said.result c.halted.result c.halted.ensures c.import-said.ensures.telling
    (halted_ok (λ said. TableSays files kept (table.import_file name) o said.status said.text) c.import-said.result c.halted.result c.halted.ensures
    (map_ok _ (λ said. TableSays files kept (table.import_file name) o said.status said.text) c.import-said.result (c.import-said.ensures.says o [] stands)
    (λ said says. does kept o c.import-said.new.desk (λ after. SaysImport o [] files name said.status said.text after) c.import-said.ensures.mirrors says)))
    c.import-said.ensures.unasked
    (halted_err (Stays (g.K.Keeper.told c.args.keeper.now) (g.K.Keeper.told c.import-said.new.keeper)) c.import-said.result c.halted.result c.halted.ensures
    (err_left _ _ c.import-said.result (c.import-said.ensures.unchanged o [] stands)
    (λ left. left_so (g.K.Keeper.told c.args.keeper.now) (g.K.Keeper.told c.import-said.new.keeper) o c.args.desk c.import-said.new.desk c.requires c.import-said.ensures.mirrors stands left c.import-said.ensures.telling)))

pub returns-clause-spoken : goal.returns-clause-spoken
returns-clause-spoken g c o stands =
    halted_ok (λ said. IsUttered said.status) c.import-said.result c.halted.result c.halted.ensures
    (map_ok _ (λ said. IsUttered said.status) c.import-said.result (c.import-said.ensures.says o [] stands)
    (λ said says. import_uttered o (g.H.Shelf.files c.args.shelf.now) c.args.name.now said.status said.text says.0 says.1))

pub returns-clause-shelf : goal.returns-clause-shelf
returns-clause-shelf g c = shelf_halted c.import-said.result c.halted.result c.halted.ensures stop.ShelfFault _ _ _ _ c.import-said.ensures.shelf

pub returns-clause-no_keeper : goal.returns-clause-no_keeper
returns-clause-no_keeper g c = halted_not_keeper c.import-said.result c.halted.result c.halted.ensures
