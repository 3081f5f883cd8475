use Rattle.req_grammar.proofs.GoodKeys.{expr_good}
use Rattle.req_grammar.proofs.KindWords.{set_good}
use Rattle.req_grammar.proofs.laws.good_shapes_are_read.Goals as goal

pub returns-clause-tree : goal.returns-clause-tree
returns-clause-tree c = λ list s all. expr_good list s.0 s.1 all

pub returns-clause-set : goal.returns-clause-set
returns-clause-set c = λ list s all none. set_good list s.0 s.1 all none
