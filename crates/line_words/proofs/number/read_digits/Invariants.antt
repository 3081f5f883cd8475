use Rattle.std.proofs.Common.{◌≡◌, ◌<◌, ◌^◌, take, true}
use Rattle.std.specs.List.{list_all}
use Rattle.std.specs.Char.{is_ascii_digit}
use Rattle.req_tree.specs.NumericOrder.{number_of}
use Rattle.line_words.proofs.number.read_digits.Given as goal

abbrev pub invariant-loop-digit : goal.invariant-loop-digit
invariant-loop-digit l = record {
  digits : list_all is_ascii_digit (take l.digit-index l.word) ≡ true;
  value : l.number ≡ number_of (take l.digit-index l.word);
  bound : l.number < 10 ^ l.digit-index;
}
