use Rattle.req_ops.proofs.RoundTrips.{respelled_same, respelled_fault}
use Rattle.req_ops.proofs.round_trip.respell_set.Goals as goal

pub write_again-requires : goal.write_again-requires
write_again-requires c = c.in-Ok.ensures.encodable

pub returns-in-Ok-clause-same : goal.returns-in-Ok-clause-same
returns-in-Ok-clause-same c = respelled_same c.bytes_spell_one_set.ensures _ _ _ c.in-Ok.ensures.found c.write_again.ensures.plain

pub returns-in-Ok-clause-fault : goal.returns-in-Ok-clause-fault
returns-in-Ok-clause-fault c = respelled_fault c.spellings_are_as_long_as_the_plain_one.ensures c.a_super_blob_has_its_total.ensures _ _ _ c.in-Ok.ensures.found c.write_again.ensures.fault
