-- A session begins with nothing open.
use Rattle.desk_lines.proofs.OfDesk.{none_of_desk}
use Rattle.desk_lines.proofs.session.session_lines.Goals as goal

pub answer_lines-requires-clause-of_desk : goal.answer_lines-requires-clause-of_desk
answer_lines-requires-clause-of_desk g c = none_of_desk _ _ c.over-lines.ensures.none
