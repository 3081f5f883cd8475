use Rattle.cs_blob.proofs.BlobsAtFronts.{found_at_front, only_at_front}
use Rattle.cs_blob.proofs.laws.a_blob_is_read_where_it_is.Goals as goal

pub returns-clause-found : goal.returns-clause-found
returns-clause-found c = found_at_front

pub returns-clause-only : goal.returns-clause-only
returns-clause-only c = only_at_front
