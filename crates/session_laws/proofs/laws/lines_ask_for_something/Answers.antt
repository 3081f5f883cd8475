use Rattle.session_laws.proofs.EachLine.{some_content, some_edit, some_asked}
use Rattle.session_laws.proofs.laws.lines_ask_for_something.Goals as goal

pub returns-clause-content : goal.returns-clause-content
returns-clause-content c = some_content c.no_text_is_neither.ensures.tree

pub returns-clause-edit : goal.returns-clause-edit
returns-clause-edit c = some_edit c.no_text_is_neither.ensures.tree

pub returns-clause-session : goal.returns-clause-session
returns-clause-session c = some_asked c.no_text_is_neither.ensures.tree
