use Rattle.dumped_text.proofs.TextLaws.{text_is_normal}
use Rattle.dumped_text.proofs.SetTexts.{set_text_is_normal}
use Rattle.dumped_text.proofs.laws.texts_are_normal_forms.Goals as goal

pub returns-clause-tree : goal.returns-clause-tree
returns-clause-tree c = text_is_normal

pub returns-clause-set : goal.returns-clause-set
returns-clause-set c = set_text_is_normal
