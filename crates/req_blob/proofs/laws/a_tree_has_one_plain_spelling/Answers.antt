use Rattle.std.proofs.Common.{sym, ◌∙◌}
use Rattle.req_blob.proofs.laws.a_tree_has_one_plain_spelling.Goals as goal

pub returns : goal.returns
returns c = λ tree a b p q. p.plain_is ∙ sym q.plain_is
