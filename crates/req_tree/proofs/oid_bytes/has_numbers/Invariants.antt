use Rattle.std.proofs.Common.{length}
use Rattle.req_tree.specs.Oid.{IsBytes}
use Rattle.req_tree.specs.Steps.{HasNumbers}
use Rattle.req_tree.proofs.oid_bytes.has_numbers.Given as goal

abbrev pub invariant-loop-after : goal.invariant-loop-after
invariant-loop-after l = record {
  are : IsBytes l.rest;
  to : HasNumbers l.bytes → HasNumbers l.rest;
  back : HasNumbers l.rest → HasNumbers l.bytes;
}

abbrev pub decreases-loop-after : goal.decreases-loop-after
decreases-loop-after l = length l.rest
