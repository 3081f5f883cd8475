use Rattle.req_tree.proofs.OidTexts.{one_oid}
use Rattle.req_tree.proofs.laws.a_text_has_one_oid.Goals as goal

pub returns : goal.returns
returns c = one_oid
