use Rattle.req_blob.proofs.Blobs.{decoded_spells, spells_decoded}
use Rattle.req_blob.proofs.laws.bytes_are_read_where_they_spell.Goals as goal

pub returns : goal.returns
returns c = λ bytes tree are.
    let oid = c.an_oid_is_read_where_it_is.ensures in
    let blob = c.a_blob_is_read_where_it_is.ensures in
    (decoded_spells oid blob.found bytes tree are, spells_decoded oid blob.only bytes tree)
