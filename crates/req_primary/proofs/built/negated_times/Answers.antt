use Rattle.std.proofs.Common.{◌≡◌, ◌-◌, ◌+◌, arith}
use Rattle.req_primary.specs.Keys.{outcome_of}
use Rattle.req_primary.proofs.Keys.{negated_step}
use Rattle.req_primary.proofs.built.negated_times.Goals as goal

pub loop-preserved : goal.loop-preserved
loop-preserved c =
    let one_less : c.args.count - c.loop.counter ≡ (c.args.count - (c.loop.counter + 1)) + 1 = omega arith in
    negated_step (c.args.count - c.loop.counter) (c.args.count - (c.loop.counter + 1)) (outcome_of c.loop.built) (outcome_of c.in_ok-built.built) _ one_less c.in_ok-built.ensures
    c.loop.invariant
