use Rattle.cs_blob.proofs.NoSuperFault.{no_super}
use Rattle.cs_blob.proofs.laws.super_blobs_have_no_fault.Goals as goal

pub returns : goal.returns
returns c = no_super
