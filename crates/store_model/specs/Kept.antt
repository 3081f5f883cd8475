-- Tables that are stored in accepted rows, and the edits that leave them so. This project's own.
use Rattle.std.specs.Prelude.{◌≡◌, true, ⊤}
use Rattle.policy_model.specs.Contents.{Edit}
use Rattle.policy_model.specs.Keys.{is_key}
use Rattle.policy_model.specs.Tables.{Tables}
use Rattle.policy_model.specs.History.{Event, tick, ask, offer, edit, edit_failed, edit_starved, look}
use Rattle.line_laws.specs.Limits.{FitsLine}
use Rattle.store_model.specs.Stored.{raw_of_tables, HaveTrees}
use Rattle.store_model.specs.Accepted.{Accepts}

-- an edit that a line can ask for
pub record IsEdit (e : Edit) : Type 0 where
  pub key : is_key e.key ≡ true
  pub content : FitsLine e.content

-- the edits that an event answers are such
abbrev pub HasEdits : Event → Type 0
HasEdits (tick m) = ⊤
HasEdits (ask a) = ⊤
HasEdits (offer k) = ⊤
HasEdits (edit e) = IsEdit e
HasEdits (edit_failed e) = ⊤
HasEdits (edit_starved e) = ⊤
HasEdits look = ⊤

-- the rows in which the tables are stored are accepted, and mean them
pub record IsKept (t : Tables) : Type 0 where
  pub accepted : Accepts (raw_of_tables t)
  pub trees : HaveTrees t
