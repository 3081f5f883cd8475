use Rattle.std.proofs.Common.{◌≡◌, ◌-◌}
use Rattle.req_primary.specs.Keys.{outcome_of}
use Rattle.req_primary.specs.Keys as spec
use Rattle.req_primary.proofs.built.negated_times.Given as goal

-- the negations that are left make of what is built what all make of what was there
abbrev pub invariant-loop : goal.invariant-loop
invariant-loop l = spec.negated_times (l.count - l.counter) (outcome_of l.built) ≡ spec.negated_times l.count (outcome_of l.fn.inner)
