use Rattle.code_directory.specs.declared.layout.TheConstants.{SIGNATURE_MAGIC}
use Rattle.code_directory.proofs.PartLemmas.{part_is}
use Rattle.code_directory.proofs.signature.part_at.Goals as goal

pub returns : goal.returns
returns c = part_is SIGNATURE_MAGIC c.args.blob.now.whole c.args.kind c.part.result c.requires c.part.ensures
