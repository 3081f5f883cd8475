use Rattle.std.proofs.Common.{◌≡◌, true, take}
use Rattle.std.specs.List.{list_all}
use Rattle.req_tree.specs.NumericOrder.{is_digit}
use Rattle.fact_values.proofs.numeric.cut_item.Given as goal

abbrev pub invariant-loop-at : goal.invariant-loop-at
invariant-loop-at l = list_all is_digit (take l.at l.text) ≡ true
