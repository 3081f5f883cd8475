use Rattle.req_tree.proofs.NormalForms.{normal_spoken}
use Rattle.req_tree.proofs.laws.normal_forms_are_spoken.Goals as goal

pub returns : goal.returns
returns c = normal_spoken
