use Rattle.std.proofs.Common.{arith}
use Rattle.std.proofs.lemmas.Grind.{common_steps}
use Rattle.rule_list.specs.ListText.{rule_terms}
use Rattle.rule_list.proofs.row_text.terms_into.Goals as goal

pub returns-clause-text : goal.returns-clause-text
unfolding rule_terms
returns-clause-text c =
    rw (
      c.push_word.ensures.text,
      c.as_slice.ensures.bytes,
      c.push_all-4.ensures.text,
      c.push_all-3.ensures.text,
      c.flags_word.ensures.word,
      c.push_all-2.ensures.text,
      c.expiry_into.ensures.text,
      c.push_all.ensures.text,
      c.push_field.ensures.text,
      c.from.ensures,
    ) (grind (arith, common_steps))
