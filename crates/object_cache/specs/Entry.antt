-- The program's entries as those of the definitions.
use Rattle.std.specs.Prelude.{List, map, Option, option_map}
use Rattle.std.specs.Option.{option_copied}
use Rattle.std.specs.Borrow.{Bor}
use Rattle.req_tree.specs.Subject.{subject_of}
use Rattle.policy_model.specs.History.{Entry}
use Rattle.rule_values.specs.Kind.{kind_of}
use Rattle.rule_values.specs.Outcome.{outcome_of}
use Rattle.object_cache.specs.declared.entry.Entry as code

-- kind, subject and outcome
abbrev pub entry_of : code.Entry → Entry
entry_of e = record { kind = kind_of e.kind; subject = subject_of e.subject; outcome = outcome_of e.outcome }

-- entries in their order
abbrev pub entries_of : List code.Entry → List Entry
entries_of entries = map entry_of entries

-- the entry that was found
abbrev pub entry_found : Option (Bor code.Entry) → Option Entry
entry_found e = option_map entry_of (option_copied e)
