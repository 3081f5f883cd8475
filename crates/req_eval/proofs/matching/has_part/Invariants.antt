use Rattle.std.proofs.Common.{◌≡◌, drop}
use Rattle.req_tree.specs.Meaning.{has_part}
use Rattle.req_eval.proofs.matching.has_part.Given as goal

abbrev pub invariant-loop-at : goal.invariant-loop-at
invariant-loop-at l = has_part (drop l.at l.text) l.part ≡ has_part l.text l.part
