use Rattle.req_blob.proofs.Blobs.{requirement_blob}
use Rattle.req_blob.proofs.laws.a_requirement_is_a_blob.Goals as goal

pub returns : goal.returns
returns c = requirement_blob
