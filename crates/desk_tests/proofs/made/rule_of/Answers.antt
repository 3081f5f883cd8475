-- The text always is short and on one line, and what was parsed of it is its tree.
use Rattle.std.proofs.Common.{rules, sym, subst}
use Rattle.policy_model.specs.Contents.{IsRuleText}
use Rattle.desk_tests.proofs.AlwaysText.{always_text}
use Rattle.desk_tests.proofs.made.rule_of.Goals as goal

pub invariant_of-result-clause-text_is : goal.invariant_of-result-clause-text_is
invariant_of-result-clause-text_is c = subst IsRuleText (sym (search rules)) always_text
