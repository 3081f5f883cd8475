use Rattle.store_model.proofs.Kept.{kept_ids_are_own, kept_keys_are_own}
use Rattle.store_model.proofs.laws.kept_tables.Goals as goal

pub returns-clause-ids : goal.returns-clause-ids
returns-clause-ids c = kept_ids_are_own

pub returns-clause-keys : goal.returns-clause-keys
returns-clause-keys c = kept_keys_are_own
