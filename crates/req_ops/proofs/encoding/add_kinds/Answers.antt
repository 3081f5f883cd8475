use Rattle.req_ops.proofs.SetWritten.{draft_none}
use Rattle.req_ops.proofs.encoding.add_kinds.Goals as goal

pub loop-kind-init : goal.loop-kind-init
loop-kind-init c = draft_none _ _ c.requires.empty
