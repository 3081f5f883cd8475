use Rattle.std.proofs.Common.{subst, List, ℕ}
use Rattle.cs_blob.specs.SuperBlobs.{IndexFails}
use Rattle.cs_blob.proofs.NoSuperFault.{fails_behind}
use Rattle.cs_blob.proofs.super_blob.SuperBlob.read.Goals as goal

pub returns-in-Err-clause-first : goal.returns-in-Err-clause-first
returns-in-Err-clause-first c =
    let found = c.in_ok-blob.ensures.found in
    fails_behind _ _ _ _ c.in-Err.fault found.0 found.1 (subst (λ (w : List ℕ). IndexFails w c.in-Err.fault) c.whole-whole.ensures c.in-Err.ensures)
