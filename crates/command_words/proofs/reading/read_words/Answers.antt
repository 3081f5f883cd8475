-- What clap refuses is no command line.
use Rattle.command_words.proofs.Faults.{same_fault, refused_by}
use Rattle.command_words.proofs.reading.read_words.Goals as goal

pub returns-in_err-matches-clause-usage : goal.returns-in_err-matches-clause-usage
returns-in_err-matches-clause-usage c = same_fault c.from_residual.result _ _ c.from_residual.ensures.1 (λ is. refused_by _ _ (c.in_err-matches.ensures.refused is))
