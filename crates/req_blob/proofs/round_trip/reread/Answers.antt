use Rattle.req_blob.proofs.Written.{same_again, fault_again, fault_written}
use Rattle.req_blob.proofs.round_trip.reread.Goals as goal

pub returns-in-Ok-clause-same : goal.returns-in-Ok-clause-same
returns-in-Ok-clause-same c = same_again _ _ (c.decode.ensures.only _ (rw c.as_slice.ensures c.in-Ok.ensures.plain.spelled))

pub returns-in-Ok-clause-fault : goal.returns-in-Ok-clause-fault
returns-in-Ok-clause-fault c = fault_again _ _ (c.decode.ensures.only _ (rw c.as_slice.ensures c.in-Ok.ensures.plain.spelled))

pub returns-in-Err-clause-fault : goal.returns-in-Err-clause-fault
returns-in-Err-clause-fault c = fault_written _ _ c.in-Err.ensures.exact
