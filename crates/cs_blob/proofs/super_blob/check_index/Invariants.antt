use Rattle.std.proofs.Common.{◌<◌, ℕ}
use Rattle.cs_blob.specs.SuperBlobs.{IsFine}
use Rattle.cs_blob.proofs.super_blob.check_index.Given as goal

abbrev pub invariant-loop-index : goal.invariant-loop-index
invariant-loop-index l = (k : ℕ) → k < l.index → IsFine l.whole k
