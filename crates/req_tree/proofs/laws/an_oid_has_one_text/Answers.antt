use Rattle.req_tree.proofs.OidTexts.{one_text}
use Rattle.req_tree.proofs.laws.an_oid_has_one_text.Goals as goal

pub returns : goal.returns
returns c = one_text
