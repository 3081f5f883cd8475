use Rattle.req_parser.proofs.Judged.{text_fails}
use Rattle.req_parser.proofs.laws.a_failing_text_is_no_requirement.Goals as goal

pub returns : goal.returns
returns c =
    text_fails c.terminals_have_one_reading.ensures.tree c.readings_have_shapes.ensures.tree c.readings_have_no_bad_key.ensures.tree
    c.texts_have_one_first_fault.ensures.none c.texts_have_one_token_list.ensures
