use Rattle.line_reader.proofs.WithinAndPast.{not_both, within_or_past, RunsPast-append}
use Rattle.line_reader.proofs.laws.limits_are_passed_once.Goals as goal

pub returns-clause-either : goal.returns-clause-either
returns-clause-either c = within_or_past

pub returns-clause-apart : goal.returns-clause-apart
returns-clause-apart c = not_both

pub returns-clause-onward : goal.returns-clause-onward
returns-clause-onward c = RunsPast-append
