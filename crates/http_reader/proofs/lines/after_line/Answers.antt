use Rattle.http_reader.proofs.LinesEnd.{behind_lf, none_left}
use Rattle.http_reader.proofs.lines.after_line.Goals as goal

pub returns-in-Some : goal.returns-in-Some
returns-in-Some c = rw c.split_at.ensures.back (behind_lf _ _ c.in-Some.ensures)

pub returns-in-None : goal.returns-in-None
returns-in-None c = none_left _ c.in-None.ensures
