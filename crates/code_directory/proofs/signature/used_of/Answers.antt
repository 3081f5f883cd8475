use Rattle.std.proofs.Common.{sym}
use Rattle.code_directory.proofs.UsedLemmas.{one_is_used}
use Rattle.code_directory.proofs.signature.used_of.Goals as goal

pub unreachable-requires : goal.unreachable-requires
unreachable-requires c = one_is_used c.args.blob.now.whole c.requires.fine (sym c.in-None.ensures)
