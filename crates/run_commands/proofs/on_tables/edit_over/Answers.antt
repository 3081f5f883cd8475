use Rattle.std.proofs.Common.{[]}
use Rattle.policy_keeper.specs.Told.{Stays}
use Rattle.table_commands.specs.EditSays.{SaysEdit}
use Rattle.desk_state.specs.Failures.{kept_by}
use Rattle.command_words.specs.Table as table
use Rattle.run_commands.specs.Says.{TableSays}
use Rattle.run_commands.specs.Spoken.{IsUttered}
use Rattle.run_commands.proofs.Over.{does, map_ok, edit_over, reply_uttered, left_so, err_left, starved_ok, starved_err, starved_halts}
use Rattle.run_commands.proofs.on_tables.edit_over.Goals as goal

pub returns-clause-over : goal.returns-clause-over
returns-clause-over g c o shelf stands =
    let kept = kept_by (g.K.Keeper.told c.edit_line-said.new.keeper) (g.K.Keeper.faults c.args.keeper.now) (g.K.Keeper.faults c.edit_line-said.new.keeper) in
    let line = c.args.line.now in
    edit_over shelf (g.K.Keeper.told c.args.keeper.now) kept line o c.starved.result c.edit_line-said.ensures.telling
    (starved_ok (λ said. TableSays shelf kept (table.edit line) o said.status said.text) c.edit_line-said.result c.starved.result c.starved.ensures
    (map_ok _ (λ said. TableSays shelf kept (table.edit line) o said.status said.text) c.edit_line-said.result (c.edit_line-said.ensures.says o [] stands)
    (λ said says. does kept o c.edit_line-said.new.desk (λ after. SaysEdit o [] line said.status said.text after) c.edit_line-said.ensures.mirrors says)))
    (starved_halts c.edit_line-said.result c.starved.result c.starved.ensures)
    (starved_err (Stays (g.K.Keeper.told c.args.keeper.now) (g.K.Keeper.told c.edit_line-said.new.keeper)) c.edit_line-said.result c.starved.result c.starved.ensures
    (err_left _ _ c.edit_line-said.result (c.edit_line-said.ensures.unchanged o [] stands)
    (λ left. left_so (g.K.Keeper.told c.args.keeper.now) (g.K.Keeper.told c.edit_line-said.new.keeper) o c.args.desk c.edit_line-said.new.desk c.requires c.edit_line-said.ensures.mirrors stands left c.edit_line-said.ensures.telling)))

pub returns-clause-spoken : goal.returns-clause-spoken
returns-clause-spoken g c o stands =
    starved_ok (λ said. IsUttered said.status) c.edit_line-said.result c.starved.result c.starved.ensures
    (map_ok _ (λ said. IsUttered said.status) c.edit_line-said.result (c.edit_line-said.ensures.says o [] stands)
    (λ said says. reply_uttered o c.args.line.now said.status said.text says.0 says.1))

pub returns-clause-halts : goal.returns-clause-halts
returns-clause-halts g c = starved_halts c.edit_line-said.result c.starved.result c.starved.ensures
