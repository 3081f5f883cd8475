use Rattle.std.proofs.Common.{◌-◌, length}
use Rattle.req_tokens.specs.Terminals.{plains}
use Rattle.req_parser.specs.SetReading.{parts_at}
use Rattle.req_parser.proofs.PartLoops.{IsOnTheWay}
use Rattle.req_parser.proofs.parts.parts_at.Given as goal

-- the parts that are left give what all terminals give
abbrev pub invariant-loop : goal.invariant-loop
invariant-loop l = IsOnTheWay l.size (length l.list - l.counter) (parts_at (plains l.list)) l.parts.items (plains l.rest)
