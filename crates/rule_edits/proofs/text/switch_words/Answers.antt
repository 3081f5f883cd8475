use Rattle.std.proofs.Common.{rules}
use Rattle.policy_model.specs.Texts.{content_text}
use Rattle.rule_edits.proofs.text.switch_words.Goals as goal

pub returns-then-on-clause-words : goal.returns-then-on-clause-words
unfolding content_text
returns-then-on-clause-words c = search rules

pub returns-else-on-clause-words : goal.returns-else-on-clause-words
unfolding content_text
returns-else-on-clause-words c = search rules
