use Rattle.std.proofs.Common.{◌<◌, ℕ}
use Rattle.code_directory.specs.Agreement.{PageAgrees}
use Rattle.code_directory.proofs.pages.check_pages.Given as goal

abbrev pub invariant-loop-slot : goal.invariant-loop-slot
invariant-loop-slot l = (i : ℕ) → i < l.slot → PageAgrees l.directory.bytes l.code i
