-- What a desk keeps of earlier assessments, through its edits.
use Rattle.std.specs.Prelude.{◌≡◌, ℕ, ◌≤◌, List, Option, Some, None, Result, Ok, Err}
use Rattle.policy_model.specs.Rules.{Row, Rank, Kind, execute, install, document}
use Rattle.policy_model.specs.Tables.{Answer, Effect}
use Rattle.policy_model.specs.History.{Entry, Counts}
use Rattle.authority_table.specs.declared.prepared.Prepared.{Prepared}
use Rattle.authority_table.specs.Prepared.{plan_touched}
use Rattle.object_model.specs.Purges.{purged, purged_by, purged_counts}
use Rattle.object_model.specs.Plain.{Plain, Rings, purged_rings, rings_with}
use Rattle.object_model.specs.Stands.{counts_with}
use Rattle.object_cache.specs.declared.objects.Objects.{Objects}
use Rattle.object_cache.specs.Objects.{live_at, counts, rings}

-- the entries that haven't ended, how many edits touched each kind, and the first ranks that the last of them touched
pub record Cache : Type 0 where
  pub entries : List Entry
  pub counts : Counts
  pub rings : Rings

-- of a list of objects, at a moment
abbrev pub cache_in : ℕ → Objects → Cache
cache_in m objects = record { entries = live_at m objects; counts = counts objects; rings = rings objects }

-- of a desk that holds this
abbrev pub cache_at : Plain → Cache
cache_at d = record { entries = d.entries; counts = d.counts; rings = d.rings }

-- no count is above n
pub record AreAtMost (n : ℕ) (c : Counts) : Type 0 where
  pub executes : c.execute ≤ n
  pub installs : c.install ≤ n
  pub documents : c.document ≤ n

-- after a kind was touched, or wasn't
abbrev pub purged_at : Kind → Option Rank → Cache → Cache
purged_at kind first_rank x = record { entries = purged kind first_rank x.entries; counts = purged_counts kind first_rank x.counts; rings = purged_rings kind first_rank x.rings }

-- after a planned change of the rules, kind by kind
abbrev pub purged_as : Option Prepared → Cache → Cache
purged_as None x = x
purged_as (Some plan) x = purged_at document (plan_touched plan document) (purged_at install (plan_touched plan install) (purged_at execute (plan_touched plan execute) x))

-- after a plan was to be carried out
abbrev pub purged_so : {A E : Type 0} → Result A E → Option Prepared → Cache → Cache
purged_so (Ok done) plan x = purged_as plan x
purged_so (Err fault) plan x = x

-- after an edit that touches these rows
abbrev pub edited_cache : List Row → Cache → Cache
edited_cache touched x = record { entries = purged_by touched x.entries; counts = counts_with touched x.counts; rings = rings_with touched x.rings }

-- an edit's answer leaves what the edit makes of it; where none is given all is as before
abbrev pub IsPurged : Effect → Cache → Cache → Option Answer → Type 0
IsPurged effect old new None = new ≡ old
IsPurged effect old new (Some a) = new ≡ edited_cache effect.touched old
