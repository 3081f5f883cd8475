use Rattle.std.proofs.lemmas.Result.{IfOk-weaker}
use Rattle.req_tree.specs.Tree.{tree_of}
use Rattle.req_primary.specs.Keys.{outcome_of}
use Rattle.req_primary.proofs.Keys.{plain_settled}
use Rattle.req_primary.proofs.meaning.settled_plain.Goals as goal

pub returns : goal.returns
returns c = λ shallow. IfOk-weaker _ _ _ (λ built is. plain_settled (tree_of c.args.plain.req) (outcome_of built) shallow c.args.plain.plain is) c.leaf.ensures
