use Rattle.std.proofs.Common.{ap}
use Rattle.cs_blob.specs.declared.fault.BlobFault.{BlobFault}
use Rattle.std.proofs.Common.{Option}
use Rattle.req_blob.specs.Decoding.{blob_at, blob_when}
use Rattle.req_blob.proofs.Blobs.{blob_taken}
use Rattle.req_blob.proofs.decoding.blob_at.Goals as goal

pub returns-in-Ok-clause-long : goal.returns-in-Ok-clause-long
returns-in-Ok-clause-long c = rw c.whole.ensures c.in-Ok.ensures.found.0.header

pub returns-in-Ok-clause-reads : goal.returns-in-Ok-clause-reads
returns-in-Ok-clause-reads c = rw (c.whole.ensures, c.rest.ensures) (blob_taken c.a_blob_is_read_where_it_is.ensures.only _ _ _ c.in-Ok.ensures.found)

pub returns-in-Err-clause-reads : goal.returns-in-Err-clause-reads
unfolding blob_at
returns-in-Err-clause-reads c = λ _. ap (λ (o : Option BlobFault). blob_when o c.args.bytes.now) c.in-Err.ensures.first
