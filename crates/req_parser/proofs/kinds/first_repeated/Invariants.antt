use Rattle.std.proofs.Common.{◌≡◌, drop}
use Rattle.req_tokens.specs.Terminals.{plains}
use Rattle.req_parser.specs.Kinds.{repeated_from, first_repeated}
use Rattle.req_parser.proofs.kinds.first_repeated.Given as goal

-- what is left decides, by what was seen
abbrev pub invariant-loop-at : goal.invariant-loop-at
invariant-loop-at l = repeated_from l.at l.seen (plains (drop l.at l.list)) ≡ first_repeated (plains l.list)
