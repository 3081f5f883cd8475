use Rattle.std.proofs.Common.{ℕ, ◌<◌}
use Rattle.std.specs.Prelude.{IfSome}
use Rattle.req_tree.specs.TreeSet.{part_of}
use Rattle.req_tree.specs.Spellable.{IsEncodable}
use Rattle.req_tree.proofs.spellable.is_encodable_set.Given as goal

abbrev pub invariant-loop-kind : goal.invariant-loop-kind
invariant-loop-kind l = (k : ℕ) → k < l.kind → IfSome (part_of k l.set) IsEncodable
