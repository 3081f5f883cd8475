use Rattle.req_blob.proofs.Written.{can_encode}
use Rattle.req_blob.proofs.laws.what_is_spelt_can_be_written.Goals as goal

pub returns : goal.returns
returns c = can_encode
