use Rattle.req_tree.specs.Facts.{known_of}
use Rattle.req_tree.proofs.NormalForms.{normal_means}
use Rattle.req_tree.proofs.laws.normal_forms_keep_the_meaning.Goals as goal

pub returns : goal.returns
returns c = λ tree subject facts. normal_means tree subject (known_of facts subject.cdhash)
