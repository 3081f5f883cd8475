use Rattle.std.proofs.Common.{arith}
use borrow.Author.Count.{below_more}
use Rattle.cs_blob.specs.SuperBlobs.{IsFine}
use Rattle.cs_blob.proofs.super_blob.check_index.Goals as goal

pub loop-index-preserved : goal.loop-index-preserved
loop-index-preserved c = below_more (IsFine c.args.whole.now) c.loop-index.index c.loop-index.invariant c.in_ok-check_entry.ensures

pub returns : goal.returns
returns c = (record { counted = omega arith; few = omega arith; fits = omega arith }, λ k among. c.loop-index.invariant k (omega (arith, among)))
