use Rattle.req_machine.specs.Machine.{expr, set}
use Rattle.req_machine.proofs.Longest.{expr_agrees, set_agrees, whole_means}
use Rattle.req_machine.proofs.laws.shapes_are_taken.Goals as goal

pub returns-clause-tree : goal.returns-clause-tree
returns-clause-tree c = λ list. (expr_agrees.taken list, whole_means expr list)

pub returns-clause-set : goal.returns-clause-set
returns-clause-set c = λ list. (set_agrees.taken list, whole_means set list)
