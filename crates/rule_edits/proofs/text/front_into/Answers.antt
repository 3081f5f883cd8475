use Rattle.std.proofs.Common.{rules, arith}
use Rattle.std.proofs.lemmas.Grind.{common_steps}
use Rattle.policy_model.specs.Texts.{content_text}
use Rattle.rule_edits.proofs.text.front_into.Goals as goal

pub returns-in-Remove : goal.returns-in-Remove
unfolding content_text
returns-in-Remove c = search rules

pub returns-in-Enable : goal.returns-in-Enable
unfolding content_text
returns-in-Enable c = search rules

pub returns-in-Disable : goal.returns-in-Disable
unfolding content_text
returns-in-Disable c = search rules

pub returns-in-Expire : goal.returns-in-Expire
unfolding content_text
returns-in-Expire c =
    rw (
      c.expiry_into.ensures.text,
      c.push.ensures.text,
      c.change_into-in-Expire.ensures.text,
    ) (grind (arith, common_steps))
