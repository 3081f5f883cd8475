use Rattle.req_machine.proofs.Parentheses.{balanced_way}
use Rattle.req_machine.proofs.laws.ways_are_balanced.Goals as goal

pub returns : goal.returns
returns c = balanced_way
