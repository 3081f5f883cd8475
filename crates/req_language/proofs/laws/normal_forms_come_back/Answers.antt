use Rattle.req_language.proofs.Promises.{comes_back}
use Rattle.req_language.proofs.laws.normal_forms_come_back.Goals as goal

pub returns : goal.returns
returns c =
    comes_back c.a_blob_spells_one_tree.ensures c.a_tree_has_one_plain_spelling.ensures c.normal_forms_are_spoken.ensures
    c.normal_forms_keep_the_meaning.ensures c.spoken_trees_are_normal.ensures
