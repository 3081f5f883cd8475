use Rattle.line_laws.proofs.LinesBack.{words_back}
use Rattle.line_laws.proofs.laws.words_read_back.Goals as goal

pub returns : goal.returns
returns c = words_back
