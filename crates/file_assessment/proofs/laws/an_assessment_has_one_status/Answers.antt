use Rattle.file_assessment.proofs.OneStatus.{one_told, refused_ever}
use Rattle.file_assessment.proofs.laws.an_assessment_has_one_status.Goals as goal

pub returns-clause-told : goal.returns-clause-told
returns-clause-told c = λ o h moments kind signature code said other first second a b. one_told c.an_assessment_has_one_line.ensures o h kind signature code moments first second said other a b

pub returns-clause-refused : goal.returns-clause-refused
returns-clause-refused c = λ o h moments others kind signature code said other second a b. refused_ever c.an_assessment_has_one_line.ensures o h kind signature code moments others second said other a b
