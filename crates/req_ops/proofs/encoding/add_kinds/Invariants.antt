use Rattle.req_ops.specs.Steps.{IsDraftTo}
use Rattle.req_ops.proofs.encoding.add_kinds.Given as goal

abbrev pub invariant-loop-kind : goal.invariant-loop-kind
invariant-loop-kind l = IsDraftTo l.set l.kind l.writer
