use Rattle.req_parser.proofs.SetJudged.{set_text_fails}
use Rattle.req_parser.proofs.laws.a_failing_text_is_no_set.Goals as goal

pub returns : goal.returns
returns c =
    set_text_fails c.terminals_have_one_reading.ensures.set c.readings_have_shapes.ensures.set c.readings_have_no_bad_key.ensures.set
    c.sets_repeat_no_kind.ensures c.texts_have_one_first_fault.ensures.none c.texts_have_one_token_list.ensures
