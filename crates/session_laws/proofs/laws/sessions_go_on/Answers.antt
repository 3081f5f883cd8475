use Rattle.session_laws.proofs.StaysKept.{goes_on}
use Rattle.session_laws.proofs.laws.sessions_go_on.Goals as goal

pub returns : goal.returns
returns c = goes_on
