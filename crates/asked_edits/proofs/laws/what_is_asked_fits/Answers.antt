use Rattle.asked_edits.proofs.Contents.{asked_content_fits, asked_edit_fits}
use Rattle.asked_edits.proofs.laws.what_is_asked_fits.Goals as goal

pub returns-clause-content : goal.returns-clause-content
returns-clause-content c = asked_content_fits

pub returns-clause-edit : goal.returns-clause-edit
returns-clause-edit c = asked_edit_fits
