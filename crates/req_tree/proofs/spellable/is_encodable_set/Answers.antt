use Rattle.std.proofs.Common.{arith, refl}
use Rattle.req_tree.proofs.EncodableSets.{below_more, all_parts}
use Rattle.req_tree.proofs.spellable.is_encodable_set.Goals as goal

pub loop-kind-preserved : goal.loop-kind-preserved
loop-kind-preserved c = below_more _ _ c.loop-kind.invariant (c.is_encodable_part.ensures.0 c.if-not-is_encodable_part.false)

pub returns : goal.returns
returns c = (λ _. all_parts _ _ (omega arith) c.loop-kind.invariant, λ _. refl)
