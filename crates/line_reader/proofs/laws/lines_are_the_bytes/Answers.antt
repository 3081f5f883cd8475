use Rattle.line_reader.proofs.LinesAndTheirText.{lines_of-whole, text_of-lines_of, lines_of-text_of}
use Rattle.line_reader.proofs.laws.lines_are_the_bytes.Goals as goal

pub returns-clause-whole : goal.returns-clause-whole
returns-clause-whole c = lines_of-whole

pub returns-clause-text : goal.returns-clause-text
returns-clause-text c = text_of-lines_of

pub returns-clause-back : goal.returns-clause-back
returns-clause-back c = lines_of-text_of
