use Rattle.std.proofs.Common.{arith, sym, ◌∙◌}
use Rattle.cs_blob.proofs.BlobsAtFronts.{blob_read, kind_is, in_bounds, same_blob}
use Rattle.cs_blob.proofs.blob.Blob.read.Goals as goal

pub returns-then-number-magic-clause-only : goal.returns-then-number-magic-clause-only
returns-then-number-magic-clause-only c = λ whole rest blob is. c.if-number-magic.true (c.number.ensures ∙ kind_is _ _ whole rest blob is)

pub returns-then-length-lt8-clause-only : goal.returns-then-length-lt8-clause-only
returns-then-length-lt8-clause-only c = λ whole rest blob is.
    let bounds = in_bounds _ _ whole rest blob is in
    omega (arith, c.then-length-lt8.either, bounds.0, bounds.1, c.number-length.ensures)

pub returns-clause-found : goal.returns-clause-found
returns-clause-found c =
    blob_read c.args.magic c.number-length.result _ _ _ (omega arith) (omega arith) (sym c.number.ensures ∙ c.if-number-magic.false) (sym c.number-length.ensures) c.split_at.ensures.front c.split_at.ensures.back

pub returns-clause-only : goal.returns-clause-only
returns-clause-only c = λ whole rest blob is.
    let read =
    blob_read c.args.magic c.number-length.result _ _ _ (omega arith) (omega arith) (sym c.number.ensures ∙ c.if-number-magic.false) (sym c.number-length.ensures) c.split_at.ensures.front c.split_at.ensures.back in
    same_blob _ _ _ _ whole rest read.0 read.1 blob is
