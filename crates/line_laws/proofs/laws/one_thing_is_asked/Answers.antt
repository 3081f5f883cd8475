use Rattle.line_laws.proofs.OneContent.{content_asked_once, edit_asked_once}
use Rattle.line_laws.proofs.laws.one_thing_is_asked.Goals as goal

pub returns-clause-content : goal.returns-clause-content
returns-clause-content c = content_asked_once c.texts_say_one_tree.ensures.tree c.a_failing_text_is_no_requirement.ensures c.a_text_has_one_fault.ensures.tree

pub returns-clause-edit : goal.returns-clause-edit
returns-clause-edit c = edit_asked_once c.texts_say_one_tree.ensures.tree c.a_failing_text_is_no_requirement.ensures c.a_text_has_one_fault.ensures.tree
