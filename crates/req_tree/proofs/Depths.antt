-- Each tree has a depth of its own.
use Rattle.std.proofs.Common.{ℕ, ◌≤◌, arith}
use Rattle.req_tree.specs.Tree as t
use Rattle.req_tree.specs.Tree.{Tree}
use Rattle.req_tree.specs.Depth.{depth_of}

-- no tree has depth 0
pub some_depth : (tree : Tree) → 1 ≤ depth_of tree
some_depth (t.both left right) = omega arith
some_depth (t.either left right) = omega arith
some_depth (t.negate inner) = omega arith
some_depth (t.skip_next op skipped inner) = omega arith
some_depth tree = omega arith
