use Rattle.session_laws.proofs.ItsLine.{asks_by_its_line}
use Rattle.session_laws.proofs.StaysKept.{was_asked}
use Rattle.session_laws.proofs.laws.sessions_were_asked.Goals as goal

pub returns-clause-line : goal.returns-clause-line
returns-clause-line c = asks_by_its_line

pub returns-clause-edits : goal.returns-clause-edits
returns-clause-edits c = was_asked asks_by_its_line
