use Rattle.code_directory.proofs.SoundLemmas.{sound_of}
use Rattle.code_directory.proofs.directory.Directory.passed.Goals as goal

pub invariant_of-result : goal.invariant_of-result
invariant_of-result c = sound_of c.args.kind c.args.bytes.now c.requires
