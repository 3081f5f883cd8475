use Rattle.desk_state.proofs.Keeps.{stays_same}
use Rattle.desk_state.proofs.keeping.keep_receipt.Goals as goal

pub returns-in-Err-clause-applies : goal.returns-in-Err-clause-applies
returns-in-Err-clause-applies g c = stays_same (g.K.Keeper.told c.args.keeper.now)
