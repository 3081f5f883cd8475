-- A desk that is loaded from what a keeper has.
use Rattle.std.specs.Prelude.{◌≡◌, [], ⊤, Result, Ok, Err}
use Rattle.req_tree.specs.Facts.{Facts}
use Rattle.policy_model.specs.Tables.{Tables}
use Rattle.policy_model.specs.History.{Opening}
use Rattle.store_model.specs.Raw.{RawTables}
use Rattle.store_model.specs.Stored.{Holds}
use Rattle.store_model.specs.Accepted.{Accepts}
use Rattle.store_model.specs.Refused.{IsRefusedAt}
use Rattle.policy_keeper.specs.declared.fault.KeepFault.{KeepFault}
use Rattle.policy_keeper.specs.declared.fault.KeepFault.TheVariants as keep
use Rattle.store_reading.specs.declared.fault.StoreFault.{StoreFault}
use Rattle.store_reading.specs.declared.fault.StoreFault.TheVariants as store
use Rattle.store_reading.specs.Fault.{place_of}
use Rattle.desk_state.specs.declared.desk.Desk.{Desk}
use Rattle.desk_state.specs.declared.load_fault.LoadFault.{LoadFault}
use Rattle.desk_state.specs.declared.load_fault.LoadFault.TheVariants.{KeeperFault, BadStore, OutOfMemory}
use Rattle.desk_state.specs.Stands.{tables}

-- where a desk with these tables begins: at moment 0, with nothing kept of earlier assessments
abbrev pub loaded : Tables → Facts → Opening
loaded tables facts = record {
  tables = tables;
  facts = facts;
  now = 0;
  entries = [];
  counts = record { execute = 0; install = 0; document = 0 };
}

-- why no desk was made, where the keeper gave no rows
abbrev pub load_fault : KeepFault → LoadFault
load_fault keep.Failed = KeeperFault
load_fault keep.OutOfMemory = OutOfMemory

-- why no desk was made of the rows
abbrev pub row_fault : StoreFault → LoadFault
row_fault (store.BadStore row) = BadStore row
row_fault store.OutOfMemory = OutOfMemory

-- a desk is made of these rows where they are accepted, and has the tables that they mean; else they are refused at the first bad one
abbrev pub IsLoaded : RawTables → Result Desk LoadFault → Type 0
IsLoaded raw (Ok desk) = Accepts raw × Holds raw (tables desk)
IsLoaded raw (Err KeeperFault) = ⊤
IsLoaded raw (Err (BadStore row)) = IsRefusedAt raw (place_of row)
IsLoaded raw (Err OutOfMemory) = ⊤

-- a desk that is loaded again has these tables, and no row is refused
abbrev pub IsLoadedAgain : Tables → Result Desk LoadFault → Type 0
IsLoadedAgain t (Ok desk) = tables desk ≡ t
IsLoadedAgain t (Err KeeperFault) = ⊤
IsLoadedAgain t (Err (BadStore row)) = ⊥
IsLoadedAgain t (Err OutOfMemory) = ⊤
