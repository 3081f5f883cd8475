use Rattle.dumped_text.proofs.OidText.{oid_text-is}
use Rattle.dumped_text.proofs.laws.oids_have_texts.Goals as goal

pub returns : goal.returns
returns c = oid_text-is
