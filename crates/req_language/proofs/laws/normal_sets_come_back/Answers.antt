use Rattle.req_language.proofs.Promises.{set_comes_back}
use Rattle.req_language.proofs.laws.normal_sets_come_back.Goals as goal

pub returns : goal.returns
returns c =
    set_comes_back c.bytes_spell_one_set.ensures c.a_set_has_one_plain_spelling.ensures c.normal_forms_are_spoken.ensures
    c.normal_forms_keep_the_meaning.ensures c.spoken_trees_are_normal.ensures
