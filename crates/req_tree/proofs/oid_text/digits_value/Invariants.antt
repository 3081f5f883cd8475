use Rattle.std.proofs.Common.{◌≡◌, ◌^◌, true, min, take}
use Rattle.std.specs.Str.{all_ascii_digits}
use Rattle.req_tree.specs.NumericOrder.{number_of}
use Rattle.req_tree.proofs.oid_text.digits_value.Given as goal

abbrev pub invariant-loop-byte : goal.invariant-loop-byte
invariant-loop-byte l = record {
  digits : all_ascii_digits (take l.byte-index l.word) ≡ true;
  value : l.value ≡ min (number_of (take l.byte-index l.word)) (2 ^ 32);
}
