use Rattle.req_blob.proofs.Written.{can_encode, respelled_spells, respelled_same, respelled_fault}
use Rattle.req_blob.proofs.round_trip.respell.Goals as goal

pub encode-again-requires : goal.encode-again-requires
encode-again-requires c = can_encode _ _ c.in-Ok.ensures.found

pub returns-in-Ok-clause-spells : goal.returns-in-Ok-clause-spells
returns-in-Ok-clause-spells c = respelled_spells _ _ _ c.in-Ok.ensures.found c.encode-again.ensures.plain

pub returns-in-Ok-clause-same : goal.returns-in-Ok-clause-same
returns-in-Ok-clause-same c = respelled_same c.a_blob_spells_one_tree.ensures _ _ _ c.in-Ok.ensures.found c.encode-again.ensures.plain

pub returns-in-Ok-clause-fault : goal.returns-in-Ok-clause-fault
returns-in-Ok-clause-fault c = respelled_fault _ _ _ c.in-Ok.ensures.found c.encode-again.ensures.exact
