use Rattle.dumped_text.proofs.ReadBack.{read_back}
use Rattle.dumped_text.proofs.SetTexts.{set_read_back}
use Rattle.dumped_text.proofs.laws.texts_are_read_as_normal_forms.Goals as goal

pub returns-clause-tree : goal.returns-clause-tree
returns-clause-tree c = read_back

pub returns-clause-set : goal.returns-clause-set
returns-clause-set c = set_read_back
