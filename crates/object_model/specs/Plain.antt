-- What a desk holds as plain data: the parts of an opening, and for each kind the first ranks that its last edits touched. This project's own.
use Rattle.std.specs.Prelude.{ℕ, List, [], ◌∷◌, take, Option, Some, None}
use Rattle.req_tree.specs.Facts.{Facts}
use Rattle.policy_model.specs.Rules.{Row, Rank, Kind, execute, install, document}
use Rattle.policy_model.specs.Tables.{Tables}
use Rattle.policy_model.specs.History.{Event, Entry, Opening, Counts}
use Rattle.object_model.specs.declared.limits.TheConstants.{LATE_EDITS}
use Rattle.object_model.specs.Purges.{first_touched}
use Rattle.object_model.specs.Rings.{ring_of}

-- for each kind the first ranks that its last edits touched, from the newest back
pub record Rings : Type 0 where
  pub execute : List Rank
  pub install : List Rank
  pub document : List Rank

-- those of a kind
abbrev pub ring_in : Kind → Rings → List Rank
ring_in execute r = r.execute
ring_in install r = r.install
ring_in document r = r.document

-- no edit yet
abbrev pub no_rings : Rings
no_rings = record { execute = []; install = []; document = [] }

-- a ring after one more edit, by the first rank that it touched in the kind, if it touched any
abbrev pub with_first : Option Rank → List Rank → List Rank
with_first None ring = ring
with_first (Some f) ring = take LATE_EDITS (f ∷ ring)

-- the rings after an edit that touched these rows
abbrev pub rings_with : List Row → Rings → Rings
rings_with touched r = record {
  execute = with_first (first_touched execute touched) r.execute;
  install = with_first (first_touched install touched) r.install;
  document = with_first (first_touched document touched) r.document;
}

-- one edit more that touched the kind, with its first rank there
abbrev pub noted : Kind → Rank → Rings → Rings
noted execute f r = record r { execute = take LATE_EDITS (f ∷ r.execute) }
noted install f r = record r { install = take LATE_EDITS (f ∷ r.install) }
noted document f r = record r { document = take LATE_EDITS (f ∷ r.document) }

-- the rings after a kind was touched, or wasn't
abbrev pub purged_rings : Kind → Option Rank → Rings → Rings
purged_rings kind None r = r
purged_rings kind (Some f) r = noted kind f r

-- the rings after each of the three kinds
abbrev pub rings_by : List Row → Rings → Rings
rings_by touched r =
    purged_rings document (first_touched document touched) (purged_rings install (first_touched install touched) (purged_rings execute (first_touched execute touched) r))

-- the rings after a history
abbrev pub rings_of : Opening → List Event → Rings
rings_of o h = record { execute = ring_of LATE_EDITS o h execute; install = ring_of LATE_EDITS o h install; document = ring_of LATE_EDITS o h document }

-- tables, facts, a moment, kept entries, counts of edits, and rings
pub record Plain : Type 0 where
  pub tables : Tables
  pub facts : Facts
  pub now : ℕ
  pub entries : List Entry
  pub counts : Counts
  pub rings : Rings

-- where a desk begins
abbrev pub begun_at : Opening → Plain
begun_at o = record { tables = o.tables; facts = o.facts; now = o.now; entries = o.entries; counts = o.counts; rings = no_rings }
