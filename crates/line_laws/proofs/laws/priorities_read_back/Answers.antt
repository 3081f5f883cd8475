use Rattle.line_laws.proofs.Priorities.{priority_back}
use Rattle.line_laws.proofs.laws.priorities_read_back.Goals as goal

pub returns : goal.returns
returns c = priority_back c.places_are_the_fraction.ensures.stand
