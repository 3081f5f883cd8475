use Rattle.policy_model.proofs.DecimalPlaces.{fraction_stands, fraction_only}
use Rattle.policy_model.proofs.laws.places_are_the_fraction.Goals as goal

pub returns-clause-stand : goal.returns-clause-stand
returns-clause-stand c = fraction_stands

pub returns-clause-only : goal.returns-clause-only
returns-clause-only c = fraction_only
