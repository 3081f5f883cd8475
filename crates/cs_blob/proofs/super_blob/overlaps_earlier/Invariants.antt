use Rattle.std.proofs.Common.{◌<◌, ℕ}
use Rattle.cs_blob.specs.SuperBlobs.{Overlap}
use Rattle.cs_blob.proofs.super_blob.overlaps_earlier.Given as goal

abbrev pub invariant-loop-earlier : goal.invariant-loop-earlier
invariant-loop-earlier l = (k : ℕ) → k < l.earlier → Overlap l.whole k l.index → ⊥
