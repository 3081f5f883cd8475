use Rattle.assess.proofs.Snapshots.{snapshots_judge_alike, snapshots_are_of_kind}
use Rattle.assess.proofs.laws.snapshots_judge_alike.Goals as goal

pub returns-clause-alike : goal.returns-clause-alike
returns-clause-alike c = snapshots_judge_alike c.outcome_is_right.ensures c.one_outcome.ensures.outcome

pub returns-clause-kind : goal.returns-clause-kind
returns-clause-kind c = snapshots_are_of_kind
