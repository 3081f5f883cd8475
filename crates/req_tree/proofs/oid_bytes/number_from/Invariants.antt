use Rattle.std.proofs.Common.{◌≡◌, drop}
use Rattle.req_tree.specs.OidReading as reading
use Rattle.req_tree.proofs.oid_bytes.number_from.Given as goal

abbrev pub invariant-loop-at : goal.invariant-loop-at
invariant-loop-at l = reading.septets_from 0 l.bytes ≡ reading.septets_from l.part (drop l.at l.bytes)
