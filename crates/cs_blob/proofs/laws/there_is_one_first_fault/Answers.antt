use Rattle.cs_blob.proofs.OneFault.{one_fault}
use Rattle.cs_blob.proofs.laws.there_is_one_first_fault.Goals as goal

pub returns : goal.returns
returns c = one_fault
