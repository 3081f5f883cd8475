use Rattle.policy_model.proofs.PriorityTexts.{priority_text_is_its_own}
use Rattle.policy_model.proofs.laws.priority_texts_are_their_own.Goals as goal

pub returns : goal.returns
returns c = priority_text_is_its_own
