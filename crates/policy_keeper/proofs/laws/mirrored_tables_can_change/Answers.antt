use Rattle.policy_keeper.proofs.Mirrored.{can_change}
use Rattle.policy_keeper.proofs.laws.mirrored_tables_can_change.Goals as goal

pub returns : goal.returns
returns c = can_change c.stored_rows_mean_tables.ensures.once
