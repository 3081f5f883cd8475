use Rattle.policy_model.proofs.OneOutcome.{governs_once, latent_once, outcome_is_one}
use Rattle.policy_model.proofs.laws.one_outcome.Goals as goal

pub returns-clause-governs : goal.returns-clause-governs
returns-clause-governs c = governs_once

pub returns-clause-latent : goal.returns-clause-latent
returns-clause-latent c = latent_once

pub returns-clause-outcome : goal.returns-clause-outcome
returns-clause-outcome c = outcome_is_one
