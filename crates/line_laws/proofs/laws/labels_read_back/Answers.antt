use Rattle.line_laws.proofs.Bytes.{word_back}
use Rattle.line_laws.proofs.OtherWords.{label_back, name_back}
use Rattle.line_laws.proofs.laws.labels_read_back.Goals as goal

pub returns-clause-bytes : goal.returns-clause-bytes
returns-clause-bytes c = word_back

pub returns-clause-label : goal.returns-clause-label
returns-clause-label c = label_back

pub returns-clause-name : goal.returns-clause-name
returns-clause-name c = name_back
