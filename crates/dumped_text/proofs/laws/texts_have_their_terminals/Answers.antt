use Rattle.dumped_text.proofs.TreeTexts.{text_says}
use Rattle.dumped_text.proofs.SetTexts.{set_says}
use Rattle.dumped_text.proofs.laws.texts_have_their_terminals.Goals as goal

pub returns-clause-tree : goal.returns-clause-tree
returns-clause-tree c = text_says

pub returns-clause-set : goal.returns-clause-set
returns-clause-set c = set_says
