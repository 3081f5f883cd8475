use Rattle.req_parser.proofs.OneFault.{text_once, set_text_once}
use Rattle.req_parser.proofs.laws.a_text_has_one_fault.Goals as goal

pub returns-clause-tree : goal.returns-clause-tree
returns-clause-tree c =
    text_once (record { one = c.texts_have_one_first_fault.ensures.one; none = c.texts_have_one_first_fault.ensures.none; list = c.texts_have_one_token_list.ensures })
    (record { once = c.one_number_is_taken.ensures; shapes = c.readings_have_shapes.ensures.tree; no_bad = c.readings_have_no_bad_key.ensures.tree })

pub returns-clause-set : goal.returns-clause-set
returns-clause-set c =
    set_text_once (record { one = c.texts_have_one_first_fault.ensures.one; none = c.texts_have_one_first_fault.ensures.none; list = c.texts_have_one_token_list.ensures })
    (record { once = c.one_number_is_taken.ensures; shapes = c.readings_have_shapes.ensures.set; no_bad = c.readings_have_no_bad_key.ensures.set; no_twice = c.sets_repeat_no_kind.ensures })
