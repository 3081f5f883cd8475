use Rattle.policy_keeper.proofs.Mirrored.{load_mirrors}
use Rattle.policy_keeper.proofs.laws.loaded_tables_are_mirrored.Goals as goal

pub returns : goal.returns
returns c = load_mirrors
