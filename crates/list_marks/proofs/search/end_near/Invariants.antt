use Rattle.std.specs.Prelude.{◌≢◌, ◌<◌, ◌≤◌, ℕ, length, get_or}
use Rattle.list_marks.proofs.search.end_near.Given as goal

abbrev pub invariant-loop-to : goal.invariant-loop-to
invariant-loop-to l = (l.from ≤ l.to) × (l.to ≤ length l.marks) × ((k d : ℕ) → l.to ≤ k → k < length l.marks → get_or l.marks k d ≢ l.mark)

abbrev pub decreases-loop-to : goal.decreases-loop-to
decreases-loop-to l = l.to
