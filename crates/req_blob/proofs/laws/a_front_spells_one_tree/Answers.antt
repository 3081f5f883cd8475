use Rattle.req_blob.proofs.Trees.{one_front}
use Rattle.req_blob.proofs.laws.a_front_spells_one_tree.Goals as goal

pub returns : goal.returns
returns c = one_front c.an_oid_is_read_where_it_is.ensures
