use Rattle.req_parser.proofs.Judged.{only_this}
use Rattle.req_parser.proofs.parsing.parse.Goals as goal

pub returns-clause-only : goal.returns-clause-only
returns-clause-only c = only_this c.texts_say_one_tree.ensures.tree c.a_failing_text_is_no_requirement.ensures c.args.text.now c.parsed.result c.parsed.ensures
