use Rattle.std.proofs.Common.{◌≡◌, List, subst}
use Rattle.req_grammar.specs.Tokens.{Token}
use Rattle.req_grammar.specs.Terminals.{terminals}
use Rattle.req_grammar.specs.Readings.{Reads, ReadsSet}
use Rattle.req_grammar.proofs.Cuts.{tokens_one}
use Rattle.req_grammar.proofs.Keys.{one_reading}
use Rattle.req_grammar.proofs.Sets.{one_set}
use Rattle.req_grammar.proofs.laws.texts_say_one_tree.Goals as goal

pub returns-clause-tree : goal.returns-clause-tree
returns-clause-tree c = λ text x y h i.
    let same : h.tokens ≡ i.tokens = tokens_one 0 text h.tokens i.tokens h.cut.tokens_are i.cut.tokens_are in
    one_reading c.a_text_has_one_oid.ensures (terminals text i.tokens) x y (subst (λ (list : List Token). Reads (terminals text list) x) same h.reads) i.reads

pub returns-clause-set : goal.returns-clause-set
returns-clause-set c = λ text s r h i.
    let same : h.tokens ≡ i.tokens = tokens_one 0 text h.tokens i.tokens h.cut.tokens_are i.cut.tokens_are in
    one_set c.a_text_has_one_oid.ensures (terminals text i.tokens) s r (subst (λ (list : List Token). ReadsSet (terminals text list) s) same h.reads) i.reads
