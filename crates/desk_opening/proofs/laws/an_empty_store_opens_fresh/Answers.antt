use Rattle.desk_opening.proofs.Beginnings.{empty_store_opens_fresh}
use Rattle.desk_opening.proofs.laws.an_empty_store_opens_fresh.Goals as goal

pub returns : goal.returns
returns c = empty_store_opens_fresh c.stored_rows_mean_tables.ensures.once
