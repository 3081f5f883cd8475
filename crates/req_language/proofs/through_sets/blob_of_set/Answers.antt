use Rattle.std.proofs.Common.{length}
use Rattle.req_ops.specs.SetEncoding.{plain_set}
use Rattle.req_language.proofs.InTheWay.{memory_alone}
use Rattle.req_language.proofs.through_sets.blob_of_set.Goals as goal

pub returns-in-Err-blob-clause-only : goal.returns-in-Err-blob-clause-only
returns-in-Err-blob-clause-only c set says =
    memory_alone c.in-Err-blob.fault (length (plain_set c.in-Ok.set)) (c.texts_have_short_blobs.ensures.set c.args.text.now c.in-Ok.set c.in-Ok.ensures.found) c.in-Err-blob.ensures.fault

pub returns-in-Err-blob-clause-exact : goal.returns-in-Err-blob-clause-exact
returns-in-Err-blob-clause-exact c =
    memory_alone c.in-Err-blob.fault (length (plain_set c.in-Ok.set)) (c.texts_have_short_blobs.ensures.set c.args.text.now c.in-Ok.set c.in-Ok.ensures.found) c.in-Err-blob.ensures.fault
