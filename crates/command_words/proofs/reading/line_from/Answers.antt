-- Memory that runs out while the command is read is told as that.
use Rattle.command_words.proofs.Faults.{memory_is_no_usage}
use Rattle.command_words.proofs.reading.line_from.Goals as goal

pub returns-in_err-command_from-clause-usage : goal.returns-in_err-command_from-clause-usage
returns-in_err-command_from-clause-usage c = memory_is_no_usage c.from_residual-in_err-command_from.result _ c.from_residual-in_err-command_from.ensures.1
