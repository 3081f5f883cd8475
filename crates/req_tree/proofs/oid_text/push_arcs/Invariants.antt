use Rattle.std.proofs.Common.{◌≡◌, ◌++◌, ℕ, List, length}
use Rattle.std.specs.List.{flat_map}
use Rattle.req_tree.specs.Oid.{WriteNumbers}
use Rattle.req_tree.specs.Steps.{dotted_arc}
use Rattle.req_tree.proofs.oid_text.push_arcs.Given as goal

abbrev pub invariant-loop-number : goal.invariant-loop-number
invariant-loop-number l =
    (ns : List ℕ) → WriteNumbers ns l.bytes → (ms : List ℕ) × WriteNumbers ms l.rest × (l.fn.text.items ++ flat_map dotted_arc ns ≡ l.text.items ++ flat_map dotted_arc ms)

abbrev pub decreases-loop-number : goal.decreases-loop-number
decreases-loop-number l = length l.rest
