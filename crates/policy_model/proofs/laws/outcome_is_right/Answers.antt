use Rattle.policy_model.proofs.OneOutcome.{outcome_is_right}
use Rattle.policy_model.proofs.laws.outcome_is_right.Goals as goal

pub returns : goal.returns
returns c = outcome_is_right
