use Rattle.std.specs.Prelude.{◌≡◌, ◌≢◌, ◌<◌, ℕ, false, get_or}
use Rattle.list_marks.proofs.search.has.Given as goal

abbrev pub invariant-loop-other : goal.invariant-loop-other
invariant-loop-other l = l.found ≡ false → (k d : ℕ) → k < l.other-index → get_or l.block k d ≢ l.mark
