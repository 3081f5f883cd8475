-- Memory that runs out while the command is made is told as that.
use Rattle.command_words.proofs.Faults.{memory_is_no_usage}
use Rattle.command_words.proofs.arguments.arguments.Goals as goal

pub returns-in_err-command-clause-refused : goal.returns-in_err-command-clause-refused
returns-in_err-command-clause-refused c = memory_is_no_usage c.from_residual.result _ c.from_residual.ensures.1
