use Rattle.req_tree.proofs.EncodableSets.{some_when, none_when}
use Rattle.req_tree.proofs.spellable.is_encodable_part.Goals as goal

pub returns-in-Some : goal.returns-in-Some
returns-in-Some c = some_when _ _ _ c.in-Some.ensures c.is_encodable.ensures

pub returns-in-None : goal.returns-in-None
returns-in-None c = none_when _ c.in-None.ensures
