-- The fields as they stand behind one another.
use Rattle.std.proofs.Common.{arith}
use Rattle.std.proofs.lemmas.Grind.{common_steps}
use Rattle.session_model.specs.StatusText.{status_line}
use Rattle.desk_lines.proofs.status.status_into.Goals as goal

pub returns-clause-text : goal.returns-clause-text
unfolding status_line
returns-clause-text c =
    rw (
      c.push_field-4.ensures.text,
      c.get.ensures.value,
      c.push_field-3.ensures.text,
      c.push_field-2.ensures.text,
      c.push_field.ensures.text,
      c.push_all-2.ensures.text,
      c.switch_text.ensures.text,
      c.push_all.ensures.text,
      c.requires,
    ) (grind (arith, common_steps))
