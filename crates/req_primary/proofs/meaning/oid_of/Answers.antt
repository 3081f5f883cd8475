use Rattle.std.proofs.Common.{sym, ◌∙◌, true≢false}
use Rattle.req_primary.proofs.meaning.oid_of.Goals as goal

pub returns-else-is_want_of_memory : goal.returns-else-is_want_of_memory
returns-else-is_want_of_memory c = λ other is. true≢false (sym (c.is_want_of_memory.ensures.1 (c.in-Err.ensures.only other is)) ∙ c.if-is_want_of_memory.false)
