use Rattle.std.proofs.Common.{◌≡◌, List, sym, ap, subst, ◌∙◌}
use Rattle.req_grammar.specs.Terminals.{Terminal, terminals}
use Rattle.req_grammar.specs.Readings.{ReadsSet}
use Rattle.dumped_text.specs.Dumped.{dumped_set}
use Rattle.dumped_text.specs.Said.{set_said}
use Rattle.dumped_text.specs.Sets.{normal_set}
use Rattle.req_language.proofs.laws.a_printed_set_says_one_normal_form.Goals as goal

pub returns : goal.returns
returns c set s h r =
    let told = c.texts_have_their_terminals.ensures.set set h in
    let same : told.0 ≡ r.tokens = c.texts_have_one_token_list.ensures 0 (dumped_set set) told.0 r.tokens told.1 r.cut.tokens_are in
    let terms : set_said set ≡ terminals (dumped_set set) r.tokens = sym told.2 ∙ ap (terminals (dumped_set set)) same in
    c.terminals_have_one_reading.ensures.set (set_said set) (normal_set set) s (c.texts_are_read_as_normal_forms.ensures.set set h)
    (subst (λ (l : List Terminal). ReadsSet l s) (sym terms) r.reads)
