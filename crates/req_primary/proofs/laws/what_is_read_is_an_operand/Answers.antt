use Rattle.req_primary.proofs.Sound.{operand_sound}
use Rattle.req_primary.proofs.laws.what_is_read_is_an_operand.Goals as goal

pub returns : goal.returns
returns c = operand_sound
