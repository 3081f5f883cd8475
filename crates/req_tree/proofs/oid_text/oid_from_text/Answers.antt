use Rattle.std.proofs.Common.{Err, ◌∙◌}
use Rattle.req_tree.proofs.OidTexts.{held_text, held_bytes, held_only, read_only}
use Rattle.req_tree.proofs.oid_text.oid_from_text.Goals as goal

pub held-requires : goal.held-requires
held-requires c = held_bytes c.args.text.now _ _ c.from_vec.ensures c.in-Ok.ensures

pub returns-in-Ok-clause-found : goal.returns-in-Ok-clause-found
returns-in-Ok-clause-found c = held_text c.args.text.now _ _ (c.held.ensures ∙ c.from_vec.ensures) c.in-Ok.ensures

pub returns-in-Ok-clause-only : goal.returns-in-Ok-clause-only
returns-in-Ok-clause-only c = held_only c.args.text.now _ _ (c.held.ensures ∙ c.from_vec.ensures) c.in-Ok.ensures

pub returns-in-Err-clause-only : goal.returns-in-Err-clause-only
returns-in-Err-clause-only c = read_only (Err c.in-Err.fault) c.args.text.now c.in-Err.ensures
