use Rattle.session_laws.proofs.OneAsked.{line_asks_for_one}
use Rattle.session_laws.proofs.OneSession.{session_is_one}
use Rattle.session_laws.proofs.SomeSession.{session_is_there}
use Rattle.session_laws.proofs.laws.sessions_are_one.Goals as goal

pub returns-clause-line : goal.returns-clause-line
returns-clause-line c = line_asks_for_one c.one_thing_is_asked.ensures.edit

pub returns-clause-session : goal.returns-clause-session
returns-clause-session c = session_is_one c.sessions_go_on.ensures (line_asks_for_one c.one_thing_is_asked.ensures.edit)

pub returns-clause-some : goal.returns-clause-some
returns-clause-some c = session_is_there c.lines_ask_for_something.ensures.session
