use Rattle.req_grammar.proofs.Encodable.{text_encodable, set_encodable}
use Rattle.req_grammar.proofs.laws.texts_are_encodable.Goals as goal

pub returns-clause-tree : goal.returns-clause-tree
returns-clause-tree c = text_encodable

pub returns-clause-set : goal.returns-clause-set
returns-clause-set c = set_encodable
