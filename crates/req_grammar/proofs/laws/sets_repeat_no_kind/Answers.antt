use Rattle.req_grammar.proofs.KindWords.{set_no_repeat}
use Rattle.req_grammar.proofs.laws.sets_repeat_no_kind.Goals as goal

pub returns : goal.returns
returns c = λ list set place h. set_no_repeat list set place h
