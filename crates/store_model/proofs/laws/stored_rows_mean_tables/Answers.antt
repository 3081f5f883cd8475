use Rattle.store_model.proofs.Meaning.{rows_mean_one, accepted_rows_mean_some, accepted_rows_mean_kept}
use Rattle.store_model.proofs.laws.stored_rows_mean_tables.Goals as goal

pub returns-clause-once : goal.returns-clause-once
returns-clause-once c = rows_mean_one c.texts_say_one_tree.ensures.tree

pub returns-clause-some : goal.returns-clause-some
returns-clause-some c = accepted_rows_mean_some

pub returns-clause-kept : goal.returns-clause-kept
returns-clause-kept c = accepted_rows_mean_kept
