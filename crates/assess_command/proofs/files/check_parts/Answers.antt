use Rattle.assess_command.proofs.PartsInTurn.{failing_at, passing_at}
use Rattle.assess_command.proofs.files.check_parts.Goals as goal

pub returns-in-Err : goal.returns-in-Err
returns-in-Err c = failing_at c.args.signature.now c.args.kinds.now c.loop-kind.kind-index c.in-Err.fault c.loop-kind-test.true c.loop-kind.invariant c.in-Err.ensures

pub loop-kind-preserved : goal.loop-kind-preserved
loop-kind-preserved c = passing_at c.args.signature.now c.args.kinds.now c.loop-kind.kind-index c.loop-kind-test.true c.loop-kind.invariant c.in-Ok.ensures
