use Rattle.policy_model.proofs.OneMoreEvent.{tables_of-more, now_of-more}
use Rattle.policy_model.proofs.laws.history_goes_on.Goals as goal

pub returns-clause-tables : goal.returns-clause-tables
returns-clause-tables c = tables_of-more

pub returns-clause-moment : goal.returns-clause-moment
returns-clause-moment c = now_of-more
