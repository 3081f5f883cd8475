use Rattle.dumped_text.proofs.Parens.{few_open}
use Rattle.dumped_text.proofs.SetTexts.{few_open_in_set}
use Rattle.dumped_text.proofs.laws.few_parentheses_are_open.Goals as goal

pub returns-clause-tree : goal.returns-clause-tree
returns-clause-tree c = few_open

pub returns-clause-set : goal.returns-clause-set
returns-clause-set c = few_open_in_set
