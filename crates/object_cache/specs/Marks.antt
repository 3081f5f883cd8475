-- The program's marks as the counts of the definitions.
use Rattle.policy_model.specs.History.{Counts}
use Rattle.object_cache.specs.declared.marks.Marks as code

-- a count for each kind
abbrev pub marks_of : code.Marks → Counts
marks_of m = record { execute = m.execute; install = m.install; document = m.document }

-- no edit yet
abbrev pub no_marks : Counts
no_marks = record { execute = 0; install = 0; document = 0 }
