use Rattle.rehearsal.proofs.OneLine.{in_decimal}
use Rattle.rehearsal.proofs.laws.numbers_have_no_lf.Goals as goal

pub returns : goal.returns
returns c = in_decimal
