use Rattle.req_grammar.proofs.Keys.{one_reading}
use Rattle.req_grammar.proofs.Sets.{one_set}
use Rattle.req_grammar.proofs.laws.terminals_have_one_reading.Goals as goal

pub returns-clause-tree : goal.returns-clause-tree
returns-clause-tree c = one_reading c.a_text_has_one_oid.ensures

pub returns-clause-set : goal.returns-clause-set
returns-clause-set c = one_set c.a_text_has_one_oid.ensures
