use Rattle.req_ops.proofs.SetWritten.{long_fault}
use Rattle.req_ops.proofs.SetSpelled.{finished_plain, finished_fault}
use Rattle.req_ops.proofs.encoding.encode_set.Goals as goal

pub returns-in-Ok-clause-plain : goal.returns-in-Ok-clause-plain
returns-in-Ok-clause-plain c = finished_plain _ _ _ c.in-Ok.ensures c.finish.ensures

pub returns-in-Ok-clause-fault : goal.returns-in-Ok-clause-fault
returns-in-Ok-clause-fault c = finished_fault _ _ _ c.in-Ok.ensures c.finish.ensures

pub returns-in-Err-clause-fault : goal.returns-in-Err-clause-fault
returns-in-Err-clause-fault c = long_fault c.a_super_blob_has_its_total.ensures _ _ c.in-Err.ensures
