use Rattle.desk_state.specs.Stands.{Stands}
use Rattle.rule_values.specs.Kind.{kind_of}
use Rattle.assess_command.specs.Files.{code_of}
use Rattle.assess_command.proofs.Finishes.{left_ok}
use Rattle.assess_command.proofs.line.assess_files.Goals as goal

pub returns-in-Ok-clause-stands : goal.returns-in-Ok-clause-stands
returns-in-Ok-clause-stands c = λ o h s.
    left_ok c.answer.result o h (kind_of c.args.kind) c.args.signature.now (code_of c.args.code) c.args.now _ _ (Stands c.answer.new.desk o) c.in-Ok.ensures (c.answer.ensures.says o h s) (c.answer.ensures.stands o h s)
