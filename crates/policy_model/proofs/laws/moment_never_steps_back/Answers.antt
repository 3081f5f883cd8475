use Rattle.policy_model.proofs.OneMoreEvent.{never_steps_back}
use Rattle.policy_model.proofs.laws.moment_never_steps_back.Goals as goal

pub returns : goal.returns
returns c = never_steps_back
