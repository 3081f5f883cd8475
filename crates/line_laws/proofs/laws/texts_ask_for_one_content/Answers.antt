use Rattle.line_laws.proofs.OneContent.{text_asks_once, line_asks_once}
use Rattle.line_laws.proofs.laws.texts_ask_for_one_content.Goals as goal

pub returns-clause-content : goal.returns-clause-content
returns-clause-content c = text_asks_once c.texts_say_one_tree.ensures.tree

pub returns-clause-edit : goal.returns-clause-edit
returns-clause-edit c = line_asks_once c.texts_say_one_tree.ensures.tree
