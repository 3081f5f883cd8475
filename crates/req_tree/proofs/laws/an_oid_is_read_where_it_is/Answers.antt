use Rattle.req_tree.proofs.OidTest.{is_oid-sound, is_oid-complete}
use Rattle.req_tree.proofs.laws.an_oid_is_read_where_it_is.Goals as goal

pub returns : goal.returns
returns c = λ bytes. (is_oid-sound bytes, is_oid-complete bytes)
