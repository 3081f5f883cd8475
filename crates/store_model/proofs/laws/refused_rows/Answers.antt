use Rattle.store_model.proofs.Refusals.{accepted_is_not_refused, refused_once, accepted_or_refused}
use Rattle.store_model.proofs.laws.refused_rows.Goals as goal

pub returns-clause-accepted : goal.returns-clause-accepted
returns-clause-accepted c = accepted_is_not_refused

pub returns-clause-once : goal.returns-clause-once
returns-clause-once c = refused_once

pub returns-clause-one : goal.returns-clause-one
returns-clause-one c = accepted_or_refused
