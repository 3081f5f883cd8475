use Rattle.req_grammar.specs.Readings.{AnyKey}
use Rattle.req_grammar.proofs.Balance.{expr_balanced, parts_balanced}
use Rattle.req_grammar.proofs.laws.parentheses_balance.Goals as goal

pub returns-clause-tree : goal.returns-clause-tree
returns-clause-tree c = λ list s. expr_balanced AnyKey list s.0 s.1

pub returns-clause-set : goal.returns-clause-set
returns-clause-set c = λ list s. parts_balanced AnyKey list s.0 s.1
