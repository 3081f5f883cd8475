use Rattle.std.proofs.Common.{◌<◌, arith}
use Rattle.req_blob.proofs.Turns.{goes_on}
use Rattle.req_blob.proofs.tree.+req.Goals as goal

pub req_at-returns-in-Leaf : goal.req_at-returns-in-Leaf
req_at-returns-in-Leaf t c =
    let some : 0 < c.args.depth = omega arith in
    rw (goes_on c.args.size c.args.depth c.args.bytes.now c.in_ok-op.op c.in_ok-op.rest.now _ some c.in_ok-op.ensures c.in-Leaf.ensures) c.leaf_at.ensures

pub req_at-returns-in-Both : goal.req_at-returns-in-Both
req_at-returns-in-Both t c =
    let some : 0 < c.args.depth = omega arith in
    rw (goes_on c.args.size c.args.depth c.args.bytes.now c.in_ok-op.op c.in_ok-op.rest.now _ some c.in_ok-op.ensures c.in-Both.ensures) c.both_at.ensures

pub req_at-returns-in-Either : goal.req_at-returns-in-Either
req_at-returns-in-Either t c =
    let some : 0 < c.args.depth = omega arith in
    rw (goes_on c.args.size c.args.depth c.args.bytes.now c.in_ok-op.op c.in_ok-op.rest.now _ some c.in_ok-op.ensures c.in-Either.ensures) c.either_at.ensures

pub req_at-returns-in-Negate : goal.req_at-returns-in-Negate
req_at-returns-in-Negate t c =
    let some : 0 < c.args.depth = omega arith in
    rw (goes_on c.args.size c.args.depth c.args.bytes.now c.in_ok-op.op c.in_ok-op.rest.now _ some c.in_ok-op.ensures c.in-Negate.ensures) c.negate_at.ensures

pub req_at-returns-in-SkipFalse : goal.req_at-returns-in-SkipFalse
req_at-returns-in-SkipFalse t c =
    let some : 0 < c.args.depth = omega arith in
    rw (goes_on c.args.size c.args.depth c.args.bytes.now c.in_ok-op.op c.in_ok-op.rest.now _ some c.in_ok-op.ensures c.in-SkipFalse.ensures) c.skip_false_at.ensures

pub req_at-returns-in-SkipNext : goal.req_at-returns-in-SkipNext
req_at-returns-in-SkipNext t c =
    let some : 0 < c.args.depth = omega arith in
    rw (goes_on c.args.size c.args.depth c.args.bytes.now c.in_ok-op.op c.in_ok-op.rest.now _ some c.in_ok-op.ensures c.in-SkipNext.ensures) c.skip_next_at.ensures
