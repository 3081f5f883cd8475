use Rattle.req_ops.proofs.SetLaws.{one_set}
use Rattle.req_ops.proofs.laws.bytes_spell_one_set.Goals as goal

pub returns : goal.returns
returns c = one_set c.a_blob_spells_one_tree.ensures
