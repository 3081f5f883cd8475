use Rattle.line_reader.proofs.LinesAndTheirText.{lines_of-text, lines_of-last}
use Rattle.line_reader.proofs.WithinAndPast.{within_part, past_limit, all_within}
use Rattle.line_reader.proofs.laws.lines_add_up.Goals as goal

pub returns : goal.returns
returns c = record { first = lines_of-text; last = lines_of-last; within = within_part; past = past_limit; part = all_within }
