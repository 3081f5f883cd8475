use Rattle.req_tree.proofs.NormalForms.{normal_again}
use Rattle.req_tree.proofs.laws.spoken_trees_are_normal.Goals as goal

pub returns : goal.returns
returns c = normal_again
