use Rattle.gk_io.proofs.FilesByName.{found_by_name, found_is_there}
use Rattle.gk_io.proofs.laws.files_are_found_by_name.Goals as goal

pub returns-clause-found : goal.returns-clause-found
returns-clause-found c = found_by_name

pub returns-clause-there : goal.returns-clause-there
returns-clause-there c = found_is_there
