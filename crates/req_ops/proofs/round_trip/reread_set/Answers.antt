use Rattle.req_ops.proofs.RoundTrips.{same_again, fault_again}
use Rattle.req_ops.proofs.round_trip.reread_set.Goals as goal

pub returns-in-Ok-clause-same : goal.returns-in-Ok-clause-same
returns-in-Ok-clause-same c = same_again _ _ (c.decode_set.ensures.only _ (rw c.as_slice.ensures c.in-Ok.ensures.plain.spelled))

pub returns-in-Ok-clause-fault : goal.returns-in-Ok-clause-fault
returns-in-Ok-clause-fault c = fault_again _ _ (c.decode_set.ensures.only _ (rw c.as_slice.ensures c.in-Ok.ensures.plain.spelled))
