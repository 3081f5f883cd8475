use Rattle.req_blob.proofs.Written.{fault_written}
use Rattle.req_blob.proofs.laws.what_is_refused_is_too_long.Goals as goal

pub returns : goal.returns
returns c = fault_written
