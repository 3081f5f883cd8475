use Rattle.req_blob.proofs.Blobs.{one_tree}
use Rattle.req_blob.proofs.laws.a_blob_spells_one_tree.Goals as goal

pub returns : goal.returns
returns c = one_tree c.an_oid_is_read_where_it_is.ensures c.a_blob_is_read_where_it_is.ensures.only
