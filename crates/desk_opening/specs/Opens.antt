-- Where a run's desk begins, and what is said where it has none. This project's own.
use Rattle.std.specs.Prelude.{◌≡◌, ◌⊎◌, ℕ, [], List, Option, IsSome, IfSome, ⊤}
use Rattle.gk_io.specs.Devices.{Counts}
use Rattle.gk_io.specs.Shelf.{File}
use Rattle.line_reader.specs.Lines.{with_lf}
use Rattle.store_model.specs.Raw.{StoreRow}
use Rattle.policy_model.specs.Tables.{Tables}
use Rattle.policy_model.specs.History.{Opening}
use Rattle.store_model.specs.Stored.{Holds}
use Rattle.store_model.specs.Accepted.{Accepts}
use Rattle.store_model.specs.Refused.{IsRefusedAt}
use Rattle.policy_keeper.specs.Told.{Told}
use Rattle.policy_keeper.specs.Mirror.{Mirrors}
use Rattle.desk_state.specs.declared.desk.Desk.{Desk}
use Rattle.desk_state.specs.Stands.{tables, Stands}
use Rattle.desk_state.specs.Loaded.{loaded}
use Rattle.run_status.specs.declared.status.Status.{Status}
use Rattle.run_status.specs.declared.status.Status.TheVariants.{BadStore}
use Rattle.run_status.specs.declared.stop.Stop.TheVariants as stop
use Rattle.desk_opening.specs.declared.unopened.Unopened.{Unopened}
use Rattle.desk_opening.specs.declared.unopened.Unopened.TheVariants.{Said, Stop, KeeperFault}
use Rattle.req_tree.specs.Facts.{Facts}
use Rattle.desk_opening.specs.Facts.{IsFacts, HasFacts, SaysOfFacts}
use Rattle.desk_opening.specs.StoreTexts.{bad_store_text}

-- where the keeper tells its rows before and after, they are the same
abbrev pub TellsTheSame : Told → Told → Type 0
TellsTheSame before after = IfSome after (λ new. IfSome before (λ old. old ≡ new))

-- the rows that a keeper told when its load had answered: those that it told before, if it told any then; and it told them if it tells
-- any afterwards
pub record IsLoaded (before rows after : Told) : Type 0 where
  pub same : TellsTheSame before rows
  pub telling : IsSome after → IsSome rows

-- a keeper over a load: the rows that it tells, and its count of failures
pub record PassesLoad (says may : Type 0) (told now : Told) (before counted : ℕ) : Type 0 where
  pub same : TellsTheSame told now
  pub counts : Counts says may before counted

-- where the keeper tells its rows, they are accepted, and mean these tables
abbrev pub IsStored : Told → Tables → Type 0
IsStored told t = IfSome told (λ raw. Accepts raw × Holds raw t)

-- where a run begins: with the facts of the run and the tables that the keeper's rows mean, at moment 0, with nothing kept
-- of earlier assessments
pub record IsOpening (files : Option (List File)) (name : Option (List ℕ)) (told : Told) (o : Opening) : Type 0 where
  pub facts : Facts
  pub facts_are : IsFacts files name facts
  pub tables : Tables
  pub stored : IsStored told tables
  pub opening_is : o ≡ loaded tables facts

-- the desk is where a run begins, and the keeper has its tables
pub record IsOpened (files : Option (List File)) (name : Option (List ℕ)) (told : Told) (desk : Desk) : Type 0 where
  pub opening : Opening
  pub is_opening : IsOpening files name told opening
  pub stands : Stands desk opening []
  pub mirrors : Mirrors told (tables desk)

-- what is said, by its status, of a store that isn't accepted: its first bad row, where the keeper tells its rows
abbrev pub SaysOfStore : Told → Status → List ℕ → Type 0
SaysOfStore told BadStore text = (row : StoreRow) × IfSome told (λ raw. IsRefusedAt raw row) × (text ≡ with_lf (bad_store_text row))
SaysOfStore told other text = ⊥

-- what is said, by its status, where there is no desk: the facts are looked at before the store
abbrev pub SaysUnopened : Option (List File) → Option (List ℕ) → Told → Status → List ℕ → Type 0
SaysUnopened files name told status text =
    SaysOfFacts files name status text
    ⊎ (HasFacts files name × SaysOfStore told status text)

-- why there is no desk: what is said; the shelf failed, which is asked for a facts file that is named; the keeper failed, once the facts
-- were read; or no memory. The clock isn't asked
abbrev pub IsUnopened : Option (List File) → Option (List ℕ) → Told → Unopened → Type 0
IsUnopened files name told (Said said) = SaysUnopened files name told said.status said.text
IsUnopened files name told (Stop stop.ShelfFault) = IsSome name
IsUnopened files name told (Stop stop.ClockFault) = ⊥
IsUnopened files name told (Stop stop.OutOfMemory) = ⊤
IsUnopened files name told KeeperFault = HasFacts files name

-- why the keeper's tables weren't loaded
abbrev pub IsUnloaded : Told → Unopened → Type 0
IsUnloaded told (Said said) = SaysOfStore told said.status said.text
IsUnloaded told (Stop stop.ShelfFault) = ⊥
IsUnloaded told (Stop stop.ClockFault) = ⊥
IsUnloaded told (Stop stop.OutOfMemory) = ⊤
IsUnloaded told KeeperFault = ⊤

-- the line tells of this row, or there was no memory for it
abbrev pub IsRowTold : StoreRow → Unopened → Type 0
IsRowTold row (Said said) = (said.status ≡ BadStore) × (said.text ≡ with_lf (bad_store_text row))
IsRowTold row (Stop stop.ShelfFault) = ⊥
IsRowTold row (Stop stop.ClockFault) = ⊥
IsRowTold row (Stop stop.OutOfMemory) = ⊤
IsRowTold row KeeperFault = ⊥
