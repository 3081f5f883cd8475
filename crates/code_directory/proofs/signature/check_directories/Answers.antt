use Rattle.code_directory.proofs.UsedLemmas.{no_directory, directories_are}
use Rattle.code_directory.proofs.signature.check_directories.Goals as goal

pub returns-in-None : goal.returns-in-None
returns-in-None c = no_directory c.args.blob.now.whole c.in-None.ensures

pub returns-in-Some : goal.returns-in-Some
returns-in-Some c = rw (← directories_are c.args.blob.now.whole _ c.in-Some.ensures) c.check_kinds.ensures
