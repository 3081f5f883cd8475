use Rattle.std.specs.Prelude.{◌≢◌, ◌<◌, ℕ, get_or}
use Rattle.list_marks.proofs.search.first_of.Given as goal

abbrev pub invariant-loop-i : goal.invariant-loop-i
invariant-loop-i l = (k d : ℕ) → k < l.i → get_or l.marks k d ≢ l.mark
