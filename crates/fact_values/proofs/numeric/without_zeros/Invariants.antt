use Rattle.std.proofs.Common.{◌≡◌, true, drop}
use Rattle.std.specs.List.{list_all}
use Rattle.req_tree.specs.NumericOrder.{is_digit, number_of}
use Rattle.fact_values.proofs.numeric.without_zeros.Given as goal

abbrev pub invariant-loop-at : goal.invariant-loop-at
invariant-loop-at l = record {
  digits : list_all is_digit (drop l.at l.digits) ≡ true;
  number : number_of (drop l.at l.digits) ≡ number_of l.digits;
}
