use Rattle.req_tokens.specs.Terminals.{plains}
use Rattle.req_parser.proofs.KeyPlaces.{GoodBefore}
use Rattle.req_parser.proofs.bad_key.first_bad_key.Given as goal

-- no key so far is bad
abbrev pub invariant-loop-at : goal.invariant-loop-at
invariant-loop-at l = GoodBefore (plains l.list) l.at
