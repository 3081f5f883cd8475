use Rattle.std.proofs.Common.{arith}
use Rattle.req_tree.specs.Tree.{tree_of}
use Rattle.req_tree.proofs.Depths.{some_depth}
use Rattle.req_tree.proofs.spellable.+is_within.Goals as goal

pub returns-then-depth-eq0 : goal.returns-then-depth-eq0
returns-then-depth-eq0 t c = (λ h. cc, λ h. absurd (omega (arith, some_depth (tree_of c.args.req.now), h)))
