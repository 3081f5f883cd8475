use Rattle.std.proofs.Common.{◌+◌, ◌*◌}
use Rattle.req_blob.proofs.tree.+req.Given as goal

abbrev pub decreases-req_at : goal.decreases-req_at
decreases-req_at l = 3 * l.depth + 1

abbrev pub decreases-both_at : goal.decreases-both_at
decreases-both_at l = 3 * l.depth + 3

abbrev pub decreases-either_at : goal.decreases-either_at
decreases-either_at l = 3 * l.depth + 3

abbrev pub decreases-negate_at : goal.decreases-negate_at
decreases-negate_at l = 3 * l.depth + 3

abbrev pub decreases-skip_next_at : goal.decreases-skip_next_at
decreases-skip_next_at l = 3 * l.depth + 3

abbrev pub decreases-boxed_at : goal.decreases-boxed_at
decreases-boxed_at l = 3 * l.depth + 2
