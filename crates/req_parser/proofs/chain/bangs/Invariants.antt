use Rattle.std.proofs.Common.{◌≡◌, drop}
use Rattle.req_tokens.specs.Terminals.{plains}
use Rattle.req_parser.specs.Reading.{bangs_from, bangs}
use Rattle.req_parser.proofs.chain.bangs.Given as goal

-- behind the `!` so far as many more follow as are missing
abbrev pub invariant-loop-count : goal.invariant-loop-count
invariant-loop-count l = bangs_from l.count (plains (drop l.count l.here)) ≡ bangs (plains l.here)
