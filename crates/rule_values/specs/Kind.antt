-- The program's kinds as those of the definitions.
use Rattle.rule_values.specs.declared.kind.Kind as code
use Rattle.rule_values.specs.declared.kind.Kind.TheVariants.{Execute, Install, Document}
use Rattle.policy_model.specs.Rules.{Kind, execute, install, document}

-- execute, install or document
abbrev pub kind_of : code.Kind → Kind
kind_of Execute = execute
kind_of Install = install
kind_of Document = document
