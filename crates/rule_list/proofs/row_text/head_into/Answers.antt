use Rattle.std.proofs.Common.{arith}
use Rattle.std.proofs.lemmas.Grind.{common_steps}
use Rattle.rule_list.specs.ListText.{rule_head}
use Rattle.rule_list.proofs.row_text.head_into.Goals as goal

pub returns-clause-text : goal.returns-clause-text
unfolding rule_head
returns-clause-text c =
    rw (
      c.line_into.ensures.text,
      c.push_all-5.ensures.text,
      c.push_all-4.ensures.text,
      c.verdict_word.ensures.word,
      c.push_all-3.ensures.text,
      c.push_all-2.ensures.text,
      c.word.ensures,
      c.push_all.ensures.text,
      c.push_field.ensures.text,
      c.from.ensures,
      c.get.ensures.value,
    ) (grind (arith, common_steps))
