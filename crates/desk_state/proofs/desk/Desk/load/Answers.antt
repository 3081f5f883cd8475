use Rattle.raw_tables.specs.Raw.{plain_tables}
use Rattle.desk_state.proofs.Loads.{held_again, loaded_again}
use Rattle.desk_state.proofs.desk.Desk.load.Goals as goal

pub returns-in-Ok-clause-again : goal.returns-in-Ok-clause-again
returns-in-Ok-clause-again g c = λ t k was mirrors is.
    let given = plain_tables c.in-Ok.raw in
    loaded_again c.stored_rows_mean_tables.ensures.once c.refused_rows.ensures.accepted given t
    (held_again (g.K.Keeper.told c.args.keeper.now) (g.K.Keeper.told c.load.new.self) given t was mirrors is c.in-Ok.ensures.loads) k c.of_rows.result c.of_rows.ensures.loaded
