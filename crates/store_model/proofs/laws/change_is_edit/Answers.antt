use Rattle.store_model.proofs.Changes.{change_is_edit, change_means_edit}
use Rattle.store_model.proofs.laws.change_is_edit.Goals as goal

pub returns-clause-rows : goal.returns-clause-rows
returns-clause-rows c = change_is_edit

pub returns-clause-meaning : goal.returns-clause-meaning
returns-clause-meaning c = change_means_edit
