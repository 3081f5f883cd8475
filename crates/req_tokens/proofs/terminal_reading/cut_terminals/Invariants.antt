use Rattle.std.proofs.Common.{◌≤◌, ◌-◌, length}
use Rattle.req_grammar.specs.declared.limits.TheConstants.{MOST_TEXT_BYTES}
use Rattle.req_tokens.specs.Terminals.{plains}
use Rattle.req_tokens.proofs.Led.{LedTerminals}
use Rattle.req_tokens.proofs.terminal_reading.cut_terminals.Given as goal

abbrev pub invariant-loop-rest : goal.invariant-loop-rest
invariant-loop-rest l = record {
  led : LedTerminals l.text l.rest (length l.text - length l.rest) (plains l.list.items);
  within : length l.rest ≤ length l.text;
  short : length l.text ≤ MOST_TEXT_BYTES;
}

abbrev pub decreases-loop-rest : goal.decreases-loop-rest
decreases-loop-rest l = length l.rest
