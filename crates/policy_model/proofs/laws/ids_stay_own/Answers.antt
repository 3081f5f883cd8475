use Rattle.policy_model.proofs.OwnIds.{ids_after}
use Rattle.policy_model.proofs.laws.ids_stay_own.Goals as goal

pub returns-clause-kept : goal.returns-clause-kept
returns-clause-kept c = λ o h ids. ids_after h o.tables ids
