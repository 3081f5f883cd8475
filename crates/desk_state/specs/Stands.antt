-- What a desk stands for: an opening, and what has happened since.
use Rattle.std.specs.Prelude.{ℕ, List}
use Rattle.std.specs.Arc.{arc_value}
use Rattle.req_tree.specs.Facts.{Facts}
use Rattle.code_facts.specs.Tables.{table_facts}
use Rattle.rule_values.specs.Rule.{rows_of}
use Rattle.policy_model.specs.Tables.{Tables}
use Rattle.policy_model.specs.History.{Event, Opening}
use Rattle.desk_state.specs.declared.desk.Desk.{Desk}
use Rattle.edit_receipts.specs.Receipts.{receipts_of}
use Rattle.object_model.specs.Plain.{Plain}
use Rattle.object_model.specs.Stands as model
use Rattle.desk_state.specs.Holds.{plain_of}
use Rattle.desk_state.specs.Cache.{Cache, cache_in}

-- the rules, the receipts and the switch of a desk
abbrev pub tables : Desk → Tables
tables d = record { rows = rows_of d.table; receipts = receipts_of d.receipts; enabled = d.enabled }

-- the moment of a desk
abbrev pub moment_of : Desk → ℕ
moment_of d = d.moment

-- the facts that a desk knows of code
abbrev pub facts_of : Desk → Facts
facts_of d = table_facts (arc_value d.facts)

-- what a desk holds, as plain data
abbrev pub plain : Desk → Plain
plain d = plain_of (tables d) (facts_of d) (moment_of d) d.objects

-- the desk is where the history h leads from the sound opening o
abbrev pub Stands : Desk → Opening → List Event → Type 0
Stands d o h = model.Stands (plain d) o h

-- what it keeps of earlier assessments
abbrev pub cache_of : Desk → Cache
cache_of d = cache_in (moment_of d) d.objects
