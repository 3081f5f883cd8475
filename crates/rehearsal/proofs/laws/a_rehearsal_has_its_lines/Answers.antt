use Rattle.rehearsal.specs.Made.{made}
use Rattle.rehearsal.proofs.OneLine.{made_of_lines}
use Rattle.rehearsal.proofs.laws.a_rehearsal_has_its_lines.Goals as goal

pub returns-clause-made : goal.returns-clause-made
returns-clause-made c = made_of_lines

pub returns-clause-text : goal.returns-clause-text
returns-clause-text c = λ n. c.lines_are_the_bytes.ensures.back (made n) (made_of_lines n)
