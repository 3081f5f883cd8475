-- The first space cuts the first word off.
use Rattle.std.proofs.Common.{sym, ◌∙◌}
use Rattle.line_words.proofs.FirstWord.{cut_at, no_cut}
use Rattle.line_words.proofs.split.split_word.Goals as goal

pub returns-in-Some-clause-words : goal.returns-in-Some-clause-words
returns-in-Some-clause-words c = cut_at c.args.line.now c.in-Some.space (sym c.find_space.ensures ∙ c.in-Some.is)

pub returns-in-None-clause-words : goal.returns-in-None-clause-words
returns-in-None-clause-words c = no_cut c.args.line.now (sym c.find_space.ensures ∙ c.in-None.is)
