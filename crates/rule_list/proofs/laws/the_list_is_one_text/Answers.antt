use Rattle.rule_list.proofs.ByRank.{order_is_one}
use Rattle.rule_list.proofs.OneText.{list_text_is_one}
use Rattle.rule_list.proofs.laws.the_list_is_one_text.Goals as goal

pub returns-clause-order : goal.returns-clause-order
returns-clause-order c = order_is_one

pub returns-clause-text : goal.returns-clause-text
returns-clause-text c = list_text_is_one order_is_one
