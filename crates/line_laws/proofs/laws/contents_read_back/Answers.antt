use Rattle.line_laws.proofs.LinesBack.{content_back, edit_back}
use Rattle.line_laws.proofs.laws.contents_read_back.Goals as goal

pub returns-clause-content : goal.returns-clause-content
returns-clause-content c = content_back c.places_are_the_fraction.ensures.stand

pub returns-clause-edit : goal.returns-clause-edit
returns-clause-edit c = edit_back c.places_are_the_fraction.ensures.stand
