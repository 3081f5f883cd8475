use Rattle.std.proofs.Common.{◌≢◌, ◌<◌, ℕ}
use Rattle.cs_blob.specs.SuperBlobs.{kind_at}
use Rattle.cs_blob.proofs.super_blob.has_earlier_kind.Given as goal

abbrev pub invariant-loop-earlier : goal.invariant-loop-earlier
invariant-loop-earlier l = (k : ℕ) → k < l.earlier → kind_at l.whole k ≢ kind_at l.whole l.index
