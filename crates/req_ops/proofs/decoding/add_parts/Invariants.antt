use Rattle.req_ops.specs.Steps.{HasRead}
use Rattle.req_ops.proofs.decoding.add_parts.Given as goal

abbrev pub invariant-loop-index : goal.invariant-loop-index
invariant-loop-index l = HasRead l.blob.whole l.index l.set
