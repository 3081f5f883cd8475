use Rattle.cs_blob.proofs.PartsWritten.{length-written}
use Rattle.cs_blob.proofs.laws.a_super_blob_has_its_total.Goals as goal

pub returns : goal.returns
returns c = length-written
