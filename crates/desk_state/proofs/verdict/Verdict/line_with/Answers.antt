use Rattle.std.proofs.Common.{arith, sym}
use Rattle.std.proofs.lemmas.Grind.{common_steps}
use Rattle.policy_model.specs.ReplyTexts.{verdict_text}
use Rattle.desk_state.proofs.verdict.Verdict.line_with.Goals as goal

pub returns-clause-text : goal.returns-clause-text
unfolding verdict_text
returns-clause-text c = λ told is.
    rw (
      c.push_all-11.ensures.text,
      sym is,
      c.push_all-10.ensures.text,
      c.push_all-9.ensures.text,
      c.word.ensures.word,
      c.push_all-8.ensures.text,
      c.push_all-7.ensures.text,
      c.override_word.ensures.word,
      c.push_all-6.ensures.text,
      c.push_word.ensures.text,
      c.as_slice.ensures.bytes,
      c.push_all-5.ensures.text,
      c.number_into-2.ensures.text,
      c.push_all-4.ensures.text,
      c.number_into.ensures.text,
      c.push_all-3.ensures.text,
      c.push_number.ensures.text,
      c.get.ensures.value,
      c.push_all-2.ensures.text,
      c.push_all.ensures.text,
      c.accepted_word.ensures.word,
    ) (grind (arith, common_steps))
