use Rattle.store_model.proofs.Kept.{empty_kept, edits_stay_kept, histories_stay_kept}
use Rattle.store_model.proofs.laws.stored_tables.Goals as goal

pub returns-clause-empty : goal.returns-clause-empty
returns-clause-empty c = empty_kept

pub returns-clause-edit : goal.returns-clause-edit
returns-clause-edit c = edits_stay_kept c.ids_stay_own.ensures.kept c.keys_stay_own.ensures.kept c.contents_read_back.ensures.content

pub returns-clause-history : goal.returns-clause-history
returns-clause-history c = histories_stay_kept c.ids_stay_own.ensures.kept c.keys_stay_own.ensures.kept c.contents_read_back.ensures.content
