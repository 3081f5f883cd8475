use Rattle.cs_blob.proofs.BlobsAtFronts.{same_blob}
use Rattle.cs_blob.proofs.laws.bytes_begin_with_one_blob.Goals as goal

pub returns : goal.returns
returns c = same_blob
