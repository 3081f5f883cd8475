-- Each kept entry is still what the rules say. This project's own.
use Rattle.std.specs.Prelude.{◌≡◌, ◌≢◌, ⊤, ℕ, ◌≤◌, List, take, length, All, AllPairs, Bool, true, false, Some, slice_get}
use Rattle.std.specs.List.{list_any}
use Rattle.req_tree.specs.Subject.{Subject}
use Rattle.req_tree.specs.Facts.{Facts}
use Rattle.policy_model.specs.Rules.{Row, Kind}
use Rattle.policy_model.specs.Outcomes.{Outcome, governed, default, outcome}
use Rattle.policy_model.specs.Tables.{IsAccepted}
use Rattle.policy_model.specs.History.{Event, ask, offer, edit_failed, edit_starved, Entry, Opening, tables_of, now_of, edit_answer, HasOwnIds, HasOwnKeys}
use Rattle.object_model.specs.Objects.{is_unexpired, is_for}
use Rattle.object_model.specs.Past.{counts_of}
use Rattle.object_model.specs.Kept.{objects_of}
use Rattle.object_model.specs.declared.limits.TheConstants.{MOST_ENTRIES}

-- a kept outcome is the one of now in all fields, but that a default may end sooner
abbrev pub StillSays : Outcome → Outcome → Type 0
StillSays (governed rank allow label inhibit until) now = governed rank allow label inhibit until ≡ now
StillSays (default latent label until) (default now_latent now_label now_until) = (latent ≡ now_latent) × (label ≡ now_label) × (until ≤ now_until)
StillSays (default latent label until) (governed rank allow now_label inhibit now_until) = ⊥

-- the entry hasn't ended at m, and its outcome is what the rows say at m
pub record IsFresh (rows : List Row) (facts : Facts) (m : ℕ) (e : Entry) : Type 0 where
  pub lasts : is_unexpired m e ≡ true
  pub says : StillSays e.outcome (outcome rows e.kind e.subject facts m)

-- all entries are
abbrev pub AreFresh : List Row → Facts → ℕ → List Entry → Type 0
AreFresh rows facts m objects = All (IsFresh rows facts m) objects

-- no two entries answer for one kind and subject
abbrev pub AreApart : List Entry → Type 0
AreApart objects = AllPairs (λ (a b : Entry). is_for b.kind b.subject a ≡ false) objects

-- where a desk may begin: ids rise and are at most the number of receipts; keys differ; entries are fresh, apart and within room
pub record IsSound (o : Opening) : Type 0 where
  pub ids : HasOwnIds o.tables
  pub keys : HasOwnKeys o.tables
  pub fresh : AreFresh o.tables.rows o.facts o.now o.entries
  pub apart : AreApart o.entries
  pub fits : length o.entries ≤ MOST_ENTRIES

-- where a desk is after a history, as an opening
abbrev pub opening_after : Opening → List Event → Opening
opening_after o h = record {
  tables = tables_of o h;
  facts = o.facts;
  now = now_of o h;
  entries = objects_of o h;
  counts = counts_of o h;
}

-- after the history h the ask at place k may be offered: it has a subject, found no entry, and wasn't offered yet
pub record IsOpen (o : Opening) (h : List Event) (k : ℕ) : Type 0 where
  pub kind : Kind
  pub subject : Subject
  pub keep : Bool
  pub begun : slice_get h k ≡ Some (ask (record { kind = kind; subject = Some subject; keep = keep }))
  pub missed : list_any (is_for kind subject) (objects_of o (take k h)) ≡ false
  pub once : All (λ e. e ≢ offer k) h

-- the event may come after the history h: an offer is of an ask that is open, and an edit that wasn't kept or found no memory would have been accepted
abbrev pub MayCome : Opening → List Event → Event → Type 0
MayCome o h (offer k) = IsOpen o h k
MayCome o h (edit_failed e) = IsAccepted (edit_answer o h e)
MayCome o h (edit_starved e) = IsAccepted (edit_answer o h e)
MayCome o h other = ⊤

-- each event might come where it came
abbrev pub IsLegal : Opening → List Event → Type 0
IsLegal o h = (j : ℕ) (e : Event) → slice_get h j ≡ Some e → MayCome o (take j h) e
