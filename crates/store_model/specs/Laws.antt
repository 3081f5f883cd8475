-- What follows from the definitions alone; each is proved on a function of src/laws.rt.
use Rattle.std.specs.Prelude.{◌≡◌, ◌↔◌, List, All}
use Rattle.policy_model.specs.Contents.{Edit}
use Rattle.policy_model.specs.Tables.{Tables}
use Rattle.policy_model.specs.Edits.{does}
use Rattle.policy_model.specs.History.{Event, tables_after, HasOwnIds, HasOwnKeys}
use Rattle.line_laws.specs.Limits.{FitsLine}
use Rattle.store_model.specs.Raw.{RawTables, StoreRow}
use Rattle.store_model.specs.Upgraded.{upgraded}
use Rattle.store_model.specs.Stored.{raw_of_tables, Holds}
use Rattle.store_model.specs.Accepted.{Accepts}
use Rattle.store_model.specs.Refused.{IsRefusedAt}
use Rattle.store_model.specs.Change.{Change, Takes, raw_after}
use Rattle.store_model.specs.Kept.{IsEdit, HasEdits, IsKept}

-- an edit leaves tables that are stored in accepted rows
abbrev pub EditsStayKept : Type 0
EditsStayKept = (t : Tables) (e : Edit) → IsKept t → IsEdit e → IsKept (does t e).tables

-- and so does any history
abbrev pub HistoriesStayKept : Type 0
HistoriesStayKept = (t : Tables) (h : List Event) → IsKept t → All HasEdits h → IsKept (tables_after h t)

-- ids of such tables rise from rule to rule
abbrev pub KeptIdsAreOwn : Type 0
KeptIdsAreOwn = (t : Tables) → IsKept t → HasOwnIds t

-- and no two of their receipts have one key
abbrev pub KeptKeysAreOwn : Type 0
KeptKeysAreOwn = (t : Tables) → IsKept t → HasOwnKeys t

-- rows that this format has are not upgraded again
abbrev pub UpgradedStays : Type 0
UpgradedStays = (raw : RawTables) → upgraded (upgraded raw) ≡ upgraded raw

-- nor are the rows in which tables are stored
abbrev pub StoredStays : Type 0
StoredStays = (t : Tables) → upgraded (raw_of_tables t) ≡ raw_of_tables t

-- upgraded rows mean what they meant before
abbrev pub UpgradedMeansTheSame : Type 0
UpgradedMeansTheSame = (raw : RawTables) (t : Tables) → Holds (upgraded raw) t ↔ Holds raw t

-- they are accepted where they were accepted
abbrev pub UpgradedIsAccepted : Type 0
UpgradedIsAccepted = (raw : RawTables) → Accepts (upgraded raw) ↔ Accepts raw

-- and refused where they were refused
abbrev pub UpgradedIsRefused : Type 0
UpgradedIsRefused = (raw : RawTables) (row : StoreRow) → IsRefusedAt (upgraded raw) row ↔ IsRefusedAt raw row

-- stored rows mean one set of tables at most
abbrev pub RowsMeanOne : Type 0
RowsMeanOne = (raw : RawTables) (t u : Tables) → Holds raw t → Holds raw u → t ≡ u

-- accepted rows mean some
abbrev pub AcceptedRowsMeanSome : Type 0
AcceptedRowsMeanSome = (raw : RawTables) → Accepts raw → (t : Tables) × Holds raw t

-- which are then stored in accepted rows
abbrev pub AcceptedRowsMeanKept : Type 0
AcceptedRowsMeanKept = (raw : RawTables) (t : Tables) → Accepts raw → Holds raw t → IsKept t

-- a change of the stored rows is the edit of the tables
abbrev pub ChangeIsEdit : Type 0
ChangeIsEdit = (t : Tables) (c : Change) → Takes t c → raw_after c (raw_of_tables t) ≡ raw_of_tables (does t c.edit).tables

-- so the changed rows, upgraded before, mean the edited tables
abbrev pub ChangeMeansEdit : Type 0
ChangeMeansEdit = (raw : RawTables) (t : Tables) (c : Change) → Holds raw t → Takes t c → ∥ FitsLine c.edit.content ∥₁
    → Holds (raw_after c (upgraded raw)) (does t c.edit).tables

-- a store that is accepted is refused nowhere
abbrev pub AcceptedIsNotRefused : Type 0
AcceptedIsNotRefused = (raw : RawTables) (row : StoreRow) → Accepts raw → IsRefusedAt raw row → ⊥

-- a store is refused at one place at most
abbrev pub RefusedOnce : Type 0
RefusedOnce = (raw : RawTables) (a b : StoreRow) → IsRefusedAt raw a → IsRefusedAt raw b → a ≡ b

-- no store is neither accepted nor refused
abbrev pub AcceptedOrRefused : Type 0
AcceptedOrRefused = (raw : RawTables) → (Accepts raw → ⊥) → ((row : StoreRow) → IsRefusedAt raw row → ⊥) → ⊥
