use Rattle.assess_command.proofs.PartsInTurn.{FromOn}
use Rattle.assess_command.proofs.files.check_parts.Given as goal

abbrev pub invariant-loop-kind : goal.invariant-loop-kind
invariant-loop-kind l = FromOn l.signature l.kinds l.kind-index
