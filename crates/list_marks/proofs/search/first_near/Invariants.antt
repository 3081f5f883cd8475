use Rattle.std.specs.Prelude.{◌≢◌, ◌<◌, ◌≤◌, ◌-◌, ℕ, length, get_or}
use Rattle.list_marks.proofs.search.first_near.Given as goal

abbrev pub invariant-loop-at : goal.invariant-loop-at
invariant-loop-at l = (l.at ≤ length l.marks) × ((k d : ℕ) → k < l.at → get_or l.marks k d ≢ l.mark)

abbrev pub decreases-loop-at : goal.decreases-loop-at
decreases-loop-at l = length l.marks - l.at
