use Rattle.std.proofs.Common.{◌≡◌, List, sym, ap, subst, ◌∙◌}
use Rattle.req_tree.specs.Normal.{normal}
use Rattle.req_grammar.specs.Terminals.{Terminal, terminals}
use Rattle.req_grammar.specs.Readings.{Reads}
use Rattle.dumped_text.specs.Dumped.{dumped}
use Rattle.dumped_text.specs.Said.{said}
use Rattle.req_language.proofs.laws.a_printed_text_says_one_normal_form.Goals as goal

pub returns : goal.returns
returns c tree x h r =
    let told = c.texts_have_their_terminals.ensures.tree tree h in
    let same : told.0 ≡ r.tokens = c.texts_have_one_token_list.ensures 0 (dumped tree) told.0 r.tokens told.1 r.cut.tokens_are in
    let terms : said tree ≡ terminals (dumped tree) r.tokens = sym told.2 ∙ ap (terminals (dumped tree)) same in
    c.terminals_have_one_reading.ensures.tree (said tree) (normal tree) x (c.texts_are_read_as_normal_forms.ensures.tree tree h)
    (subst (λ (l : List Terminal). Reads l x) (sym terms) r.reads)
