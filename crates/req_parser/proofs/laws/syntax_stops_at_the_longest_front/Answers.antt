use Rattle.req_parser.proofs.OneFault.{stops_there, set_stops_there}
use Rattle.req_parser.proofs.laws.syntax_stops_at_the_longest_front.Goals as goal

pub returns-clause-tree : goal.returns-clause-tree
returns-clause-tree c = stops_there c.longest_fronts_are_taken.ensures.tree

pub returns-clause-set : goal.returns-clause-set
returns-clause-set c = set_stops_there c.longest_fronts_are_taken.ensures.set
