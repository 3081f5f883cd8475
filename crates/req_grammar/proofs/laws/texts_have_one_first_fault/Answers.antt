use Rattle.req_grammar.proofs.OneFault.{fault_one, fault_none}
use Rattle.req_grammar.proofs.laws.texts_have_one_first_fault.Goals as goal

pub returns-clause-one : goal.returns-clause-one
returns-clause-one c = λ at first second text f g. fault_one at first second text f g

pub returns-clause-none : goal.returns-clause-none
returns-clause-none c = λ at place text fault tokens. fault_none at place text fault tokens
