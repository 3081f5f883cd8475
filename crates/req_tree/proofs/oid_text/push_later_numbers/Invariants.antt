use Rattle.std.proofs.Common.{◌+◌, length, option_map}
use Rattle.std.specs.Option.{option_map_or}
use Rattle.req_tree.specs.OidReading as reading
use Rattle.req_tree.specs.Steps as steps
use Rattle.req_tree.proofs.OidTexts.{Pushing}
use Rattle.req_tree.proofs.oid_text.push_later_numbers.Given as goal

abbrev pub invariant-loop-rest : goal.invariant-loop-rest
invariant-loop-rest l =
    Pushing l.fn.out.items l.out.items (reading.later_numbers (steps.words_of (option_map (λ r. r.now) l.fn.text))) (reading.later_numbers (steps.words_of (option_map (λ r. r.now) l.rest)))

abbrev pub decreases-loop-rest : goal.decreases-loop-rest
decreases-loop-rest l = option_map_or (λ r. length r.now + 1) l.rest 0
