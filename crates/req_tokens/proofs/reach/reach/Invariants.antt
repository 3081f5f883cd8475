use Rattle.std.proofs.Common.{◌≡◌, ◌+◌, length}
use Rattle.req_tokens.specs.Reach.{reach}
use Rattle.req_tokens.proofs.reach.reach.Given as goal

abbrev pub invariant-loop-byte : goal.invariant-loop-byte
invariant-loop-byte l = record {
  reached : l.length + reach l.end l.rest ≡ reach l.end l.text;
  within : l.length + length l.rest ≡ length l.text;
}

abbrev pub decreases-loop-byte : goal.decreases-loop-byte
decreases-loop-byte l = length l.rest
