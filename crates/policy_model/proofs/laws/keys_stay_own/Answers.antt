use Rattle.policy_model.proofs.OwnKeys.{empty_keys, keys_after, kept_changes_nothing}
use Rattle.policy_model.proofs.laws.keys_stay_own.Goals as goal

pub returns-clause-empty : goal.returns-clause-empty
returns-clause-empty c = empty_keys

pub returns-clause-kept : goal.returns-clause-kept
returns-clause-kept c = λ o h keys. keys_after h o.tables keys

pub returns-clause-unchanged : goal.returns-clause-unchanged
returns-clause-unchanged c = kept_changes_nothing
