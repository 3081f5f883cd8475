use Rattle.req_parser.proofs.SetJudged.{only_this_set}
use Rattle.req_parser.proofs.set_parsing.parse_set.Goals as goal

pub returns-clause-only : goal.returns-clause-only
returns-clause-only c = only_this_set c.texts_say_one_tree.ensures.set c.a_failing_text_is_no_set.ensures c.args.text.now c.parsed.result c.parsed.ensures
