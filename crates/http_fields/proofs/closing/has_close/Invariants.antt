use Rattle.std.proofs.Common.{◌≡◌, length}
use Rattle.http_model.specs.Fields as spec
use Rattle.http_fields.proofs.closing.has_close.Given as goal

abbrev pub invariant-loop-comma : goal.invariant-loop-comma
invariant-loop-comma l = spec.has_close l.rest ≡ spec.has_close l.fn.value

abbrev pub decreases-loop-comma : goal.decreases-loop-comma
decreases-loop-comma l = length l.rest
