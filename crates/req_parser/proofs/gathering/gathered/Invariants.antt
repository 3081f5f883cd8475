use Rattle.std.proofs.Common.{length}
use Rattle.req_parser.proofs.SetMade.{IsGathered}
use Rattle.req_parser.proofs.gathering.gathered.Given as goal

-- the set is that of the parts that were taken from the end
abbrev pub invariant-loop-part : goal.invariant-loop-part
invariant-loop-part l = IsGathered l.fn.parts.items l.parts.items l.set

abbrev pub decreases-loop-part : goal.decreases-loop-part
decreases-loop-part l = length l.parts.items
