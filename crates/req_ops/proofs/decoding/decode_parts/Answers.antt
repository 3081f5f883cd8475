use Rattle.req_ops.proofs.SetLaws.{and_read}
use Rattle.req_ops.proofs.decoding.decode_parts.Goals as goal

pub returns : goal.returns
returns c = rw c.and.ensures (and_read _ _ _ c.add_parts-added.ensures)
