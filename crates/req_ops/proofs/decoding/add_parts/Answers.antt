use Rattle.req_ops.proofs.SetParts.{has_none}
use Rattle.req_ops.proofs.decoding.add_parts.Goals as goal

pub loop-index-init : goal.loop-index-init
loop-index-init c = has_none _ _ c.requires.empty
