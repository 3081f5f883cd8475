use Rattle.std.proofs.Common.{◌≡◌, ◌+◌, length, drop}
use Rattle.code_directory.specs.Directories as spec
use Rattle.code_directory.proofs.checks.to_zero.Given as goal

abbrev pub invariant-loop-at : goal.invariant-loop-at
invariant-loop-at l = l.at + length (spec.to_zero (drop l.at l.bytes)) ≡ length (spec.to_zero l.bytes)
