use Rattle.std.proofs.Common.{arith}
use Rattle.std.proofs.lemmas.Grind.{common_steps}
use Rattle.std.proofs.lemmas.Bool.Decides.{nat_tests}
use Rattle.rule_values.proofs.Places.{no_places, nothing_left, one_place}
use Rattle.rule_values.proofs.priority.+places_into.Goals as goal
use Rattle.rule_values.proofs.priority.+places_into.Goals.{else-count-gt0-via-then-count-gt0+else-part-gt0, else-count-gt0-via-else-count-gt0}

pub returns-then-part-gt0-clause-text : goal.returns-then-part-gt0-clause-text
returns-then-part-gt0-clause-text t c = grind (arith, common_steps, nat_tests, c.if-count-gt0.true, c.if-part-gt0.true, c.pow-scale.ensures, c.push.ensures.text, c.places_into.ensures.text, one_place)

pub returns-else-count-gt0-clause-text : goal.returns-else-count-gt0-clause-text
returns-else-count-gt0-clause-text t c = elim c.else-count-gt0.branch [
  | else-count-gt0-via-then-count-gt0+else-part-gt0 w ↦ grind (arith, common_steps, nat_tests, w.if-part-gt0, nothing_left)
  | else-count-gt0-via-else-count-gt0 w ↦ grind (arith, common_steps, nat_tests, w.if-count-gt0, no_places)
]
