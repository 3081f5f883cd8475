use Rattle.line_laws.proofs.Numbers.{moment_back, expiry_back}
use Rattle.line_laws.proofs.OtherWords.{rule_back}
use Rattle.line_laws.proofs.laws.numbers_read_back.Goals as goal

pub returns-clause-moment : goal.returns-clause-moment
returns-clause-moment c = moment_back

pub returns-clause-expiry : goal.returns-clause-expiry
returns-clause-expiry c = expiry_back

pub returns-clause-number : goal.returns-clause-number
returns-clause-number c = rule_back
