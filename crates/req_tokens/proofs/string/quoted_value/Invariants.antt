use Rattle.std.proofs.Common.{◌≡◌, ◌==◌, not, take, filter}
use Rattle.req_tokens.proofs.string.quoted_value.Given as goal

abbrev pub invariant-loop-byte : goal.invariant-loop-byte
invariant-loop-byte l = l.bytes.items ≡ filter (λ b. not (b == 92)) (take l.byte-index l.inside)
