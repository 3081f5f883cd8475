use Rattle.std.proofs.Common.{◌≡◌, min, take}
use Rattle.req_tree.specs.NumericOrder as spec
use Rattle.req_tokens.proofs.number.number_of.Given as goal

abbrev pub invariant-loop-digit : goal.invariant-loop-digit
invariant-loop-digit l = l.number ≡ min (spec.number_of (take l.digit-index l.digits)) 2147483649
