use Rattle.std.proofs.Common.{◌≢◌, ◌<◌, ℕ}
use Rattle.cs_blob.specs.SuperBlobs.{kind_at}
use Rattle.cs_blob.proofs.super_blob.SuperBlob.part.Given as goal

abbrev pub invariant-loop-index : goal.invariant-loop-index
invariant-loop-index l = (k : ℕ) → k < l.index → kind_at l.self.whole k ≢ l.kind
