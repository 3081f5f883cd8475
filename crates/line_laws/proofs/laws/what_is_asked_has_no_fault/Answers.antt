use Rattle.line_laws.proofs.OneContent.{content_has_no_fault, edit_has_no_fault}
use Rattle.line_laws.proofs.laws.what_is_asked_has_no_fault.Goals as goal

pub returns-clause-content : goal.returns-clause-content
returns-clause-content c = content_has_no_fault c.a_failing_text_is_no_requirement.ensures

pub returns-clause-edit : goal.returns-clause-edit
returns-clause-edit c = edit_has_no_fault c.a_failing_text_is_no_requirement.ensures
