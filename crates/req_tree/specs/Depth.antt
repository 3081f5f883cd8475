-- How deep a tree is: a tree without subtrees has depth 1.
use Rattle.std.specs.Prelude.{ℕ, ◌+◌, max}
use Rattle.req_tree.specs.Tree as t
use Rattle.req_tree.specs.Tree.{Tree}

-- one more than its deepest subtree
abbrev pub depth_of : Tree → ℕ
depth_of (t.both left right) = max (depth_of left) (depth_of right) + 1
depth_of (t.either left right) = max (depth_of left) (depth_of right) + 1
depth_of (t.negate inner) = depth_of inner + 1
depth_of (t.skip_next op skipped inner) = depth_of inner + 1
depth_of tree = 1
