use Rattle.language_commands.proofs.OneStatus.{compile_one, compile_set_one, dump_one}
use Rattle.language_commands.proofs.laws.each_work_has_one_status.Goals as goal

pub returns-clause-compile : goal.returns-clause-compile
returns-clause-compile c = compile_one

pub returns-clause-compile_set : goal.returns-clause-compile_set
returns-clause-compile_set c = compile_set_one

pub returns-clause-dump : goal.returns-clause-dump
returns-clause-dump c = dump_one
