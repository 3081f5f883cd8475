use Rattle.policy_model.specs.Rules.{Meets}
use Rattle.policy_model.proofs.FirstRows.{finds_last, fails_last, later_last}
use Rattle.policy_model.proofs.laws.search_goes_on.Goals as goal

pub returns-clause-finds : goal.returns-clause-finds
returns-clause-finds c = λ d kind subject facts m rows r found h meets ahead. finds_last (Meets d kind subject facts m) rows r found h meets ahead

pub returns-clause-passes : goal.returns-clause-passes
returns-clause-passes c = λ d kind subject facts m rows r found h not'. fails_last (Meets d kind subject facts m) rows r found h not'

pub returns-clause-later : goal.returns-clause-later
returns-clause-later c = λ d kind subject facts m rows r found h not'. later_last (Meets d kind subject facts m) rows r found h not'
