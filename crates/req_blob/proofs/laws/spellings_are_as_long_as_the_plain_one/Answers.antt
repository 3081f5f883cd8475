use Rattle.req_blob.proofs.Plain.{spelled_size}
use Rattle.req_blob.proofs.laws.spellings_are_as_long_as_the_plain_one.Goals as goal

pub returns : goal.returns
returns c = spelled_size
