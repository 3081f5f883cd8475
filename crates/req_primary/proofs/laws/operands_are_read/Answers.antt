use Rattle.req_primary.proofs.Read.{operand_read}
use Rattle.req_primary.proofs.laws.operands_are_read.Goals as goal

pub returns : goal.returns
returns c = operand_read
