use Rattle.std.proofs.Common.{◌≤◌, ◌-◌, length}
use Rattle.req_grammar.specs.declared.limits.TheConstants.{MOST_TEXT_BYTES}
use Rattle.req_tokens.specs.Tokens.{tokens_of}
use Rattle.req_tokens.proofs.Led.{Led}
use Rattle.req_tokens.proofs.token_reading.cut_all.Given as goal

abbrev pub invariant-loop-rest : goal.invariant-loop-rest
invariant-loop-rest l = record {
  led : Led l.text l.rest (length l.text - length l.rest) (tokens_of l.list);
  within : length l.rest ≤ length l.text;
  short : length l.text ≤ MOST_TEXT_BYTES;
}

abbrev pub decreases-loop-rest : goal.decreases-loop-rest
decreases-loop-rest l = length l.rest
