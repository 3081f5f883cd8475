use Rattle.std.proofs.Common.{sym, ◌∙◌}
use Rattle.req_ops.proofs.laws.a_set_has_one_plain_spelling.Goals as goal

pub returns : goal.returns
returns c = λ set a b p q. p.plain_is ∙ sym q.plain_is
