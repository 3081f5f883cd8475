use Rattle.req_ops.proofs.SetParts.{is_free, has_more}
use Rattle.req_ops.proofs.decoding.add_part.Goals as goal

pub put-requires-clause-free : goal.put-requires-clause-free
put-requires-clause-free c = is_free _ _ _ _ _ c.requires.whole c.requires.among c.requires.before c.in-Ok.ensures.0 c.in-Ok.ensures.1

pub returns-in-Ok : goal.returns-in-Ok
returns-in-Ok c = has_more _ _ _ _ _ _ c.requires.before c.in-Ok.ensures.0 c.in-Ok.ensures.1 c.in-Ok.ensures.2 c.put.ensures
