-- The program's asks as those of the definitions.
use Rattle.std.specs.Prelude.{option_map}
use Rattle.req_tree.specs.Subject.{subject_of}
use Rattle.rule_values.specs.Kind.{kind_of}
use Rattle.policy_model.specs.Outcomes.{Ask}
use Rattle.assess.specs.declared.ask.Ask as code

-- kind, subject and whether the outcome may be kept
abbrev pub ask_of : code.Ask → Ask
ask_of a = record { kind = kind_of a.kind; subject = option_map subject_of a.subject; keep = a.keep }
