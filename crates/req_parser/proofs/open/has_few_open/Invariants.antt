use Rattle.std.proofs.Common.{◌≡◌, ◌≤◌, drop}
use Rattle.req_tokens.specs.Terminals.{plains}
use Rattle.req_parser.specs.Open.{few_open}
use Rattle.req_parser.proofs.open.has_few_open.Given as goal

-- what is left decides, after so many of each
abbrev pub invariant-loop-terminal : goal.invariant-loop-terminal
invariant-loop-terminal l = record {
  rest : few_open l.left l.right (plains (drop l.terminal-index l.list)) ≡ few_open 0 0 (plains l.list);
  left : l.left ≤ l.terminal-index;
  right : l.right ≤ l.terminal-index;
}
