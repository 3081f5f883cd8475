use Rattle.req_tree.proofs.NormalSpelt.{normal_can, normal_written}
use Rattle.req_tree.proofs.laws.normal_forms_can_be_spelt.Goals as goal

pub returns-clause-spelt : goal.returns-clause-spelt
returns-clause-spelt c = normal_can

pub returns-clause-written : goal.returns-clause-written
returns-clause-written c = normal_written
