use Rattle.std.proofs.Common.{◌≡◌, ◌<◌, ◌^◌, take, true}
use Rattle.std.specs.List.{list_all}
use Rattle.req_tree.specs.NumericOrder.{is_digit, number_of}
use Rattle.code_facts.proofs.words.read_digits.Given as goal

abbrev pub invariant-loop-digit : goal.invariant-loop-digit
invariant-loop-digit l = record {
  digits : list_all is_digit (take l.digit-index l.word) ≡ true;
  value : l.number ≡ number_of (take l.digit-index l.word);
  bound : l.number < 10 ^ l.digit-index;
}
