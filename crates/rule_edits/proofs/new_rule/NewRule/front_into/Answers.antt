use Rattle.std.proofs.Common.{arith}
use Rattle.std.proofs.lemmas.Grind.{common_steps}
use Rattle.policy_model.specs.Texts.{add_front}
use Rattle.rule_edits.proofs.new_rule.NewRule.front_into.Goals as goal

pub returns-clause-text : goal.returns-clause-text
unfolding add_front
returns-clause-text c =
    rw (
      c.push-6.ensures.text,
      c.push_all-4.ensures.text,
      c.flags_word.ensures.word,
      c.push-5.ensures.text,
      c.push_word.ensures.text,
      c.as_slice.ensures.bytes,
      c.push-4.ensures.text,
      c.expiry_into.ensures.text,
      c.push-3.ensures.text,
      c.line_into.ensures.text,
      c.push-2.ensures.text,
      c.push_all-3.ensures.text,
      c.verdict_word.ensures.word,
      c.push.ensures.text,
      c.push_all-2.ensures.text,
      c.word.ensures,
      c.push_all.ensures.text,
    ) (grind (arith, common_steps))
