-- A store that is read again. This project's own.
use Rattle.std.specs.Prelude.{◌≡◌, List, All}
use Rattle.policy_model.specs.Tables.{Tables}
use Rattle.policy_model.specs.History.{Event, tables_after}
use Rattle.store_model.specs.Raw.{RawTables, StoreRow}
use Rattle.store_model.specs.Stored.{Holds}
use Rattle.store_model.specs.Accepted.{Accepts}
use Rattle.store_model.specs.Refused.{IsRefusedAt}
use Rattle.store_model.specs.Kept.{HasEdits, IsKept}

-- whoever reads these rows next refuses none of them and has just these tables
pub record IsReadAgain (raw : RawTables) (t : Tables) : Type 0 where
  pub accepted : Accepts raw
  pub refused : (row : StoreRow) → IsRefusedAt raw row → ⊥
  pub only : (other : Tables) → Holds raw other → other ≡ t

-- rows that mean tables that are stored in accepted rows
abbrev pub KeptIsReadAgain : Type 0
KeptIsReadAgain = (raw : RawTables) (t : Tables) → IsKept t → Holds raw t → IsReadAgain raw t

-- rows that mean tables to which edits that lines can ask for have led from those of an accepted store
abbrev pub HistoriesAreReadAgain : Type 0
HistoriesAreReadAgain = (raw left : RawTables) (t : Tables) (h : List Event) → Accepts raw → Holds raw t → All HasEdits h
    → Holds left (tables_after h t) → IsReadAgain left (tables_after h t)
