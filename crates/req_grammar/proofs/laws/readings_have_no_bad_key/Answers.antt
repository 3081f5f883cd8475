use Rattle.req_grammar.proofs.NoBadKey.{expr_none_bad}
use Rattle.req_grammar.proofs.KindWords.{parts_none_bad}
use Rattle.req_grammar.proofs.laws.readings_have_no_bad_key.Goals as goal

pub returns-clause-tree : goal.returns-clause-tree
returns-clause-tree c = λ list x place key h. expr_none_bad list x h place key

pub returns-clause-set : goal.returns-clause-set
returns-clause-set c = λ list set place key h. parts_none_bad list h.0 h.1 place key
