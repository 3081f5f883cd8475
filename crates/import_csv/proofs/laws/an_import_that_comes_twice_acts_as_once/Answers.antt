use Rattle.import_csv.proofs.ComesTwice.{import_twice, key_acts_once}
use Rattle.import_csv.proofs.laws.an_import_that_comes_twice_acts_as_once.Goals as goal

pub returns-clause-import : goal.returns-clause-import
returns-clause-import c = import_twice

pub returns-clause-key : goal.returns-clause-key
returns-clause-key c = key_acts_once
