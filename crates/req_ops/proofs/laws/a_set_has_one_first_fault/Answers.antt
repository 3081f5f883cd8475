use Rattle.req_ops.proofs.OneSetFault.{one_set_fault}
use Rattle.req_ops.proofs.laws.a_set_has_one_first_fault.Goals as goal

pub returns : goal.returns
returns c = one_set_fault c.there_is_one_first_fault.ensures c.bytes_begin_with_one_blob.ensures c.super_blobs_have_no_fault.ensures
