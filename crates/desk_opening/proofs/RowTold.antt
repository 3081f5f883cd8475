-- The line of a store's first bad row.
use Rattle.std.proofs.Common.{◌≡◌, IfSome, sym, subst}
use Rattle.store_model.specs.Raw.{StoreRow}
use Rattle.store_model.specs.Refused.{IsRefusedAt}
use Rattle.policy_keeper.specs.Told.{Told}
use Rattle.run_status.specs.declared.stop.Stop.TheVariants as stop
use Rattle.desk_opening.specs.declared.unopened.Unopened.{Unopened}
use Rattle.desk_opening.specs.declared.unopened.Unopened.TheVariants.{Said, Stop, KeeperFault}
use Rattle.desk_opening.specs.Opens.{SaysOfStore, IsUnloaded, IsRowTold}

pub row_is_told : (told : Told) (row : StoreRow) (why : Unopened) → IfSome told (λ raw. IsRefusedAt raw row) → IsRowTold row why → IsUnloaded told why
row_is_told told row (Said said) refused is = subst (λ status. SaysOfStore told status said.text) (sym is.0) (row, refused, is.1)
row_is_told told row (Stop stop.ShelfFault) refused is = absurd is
row_is_told told row (Stop stop.ClockFault) refused is = absurd is
row_is_told told row (Stop stop.OutOfMemory) refused is = tt
row_is_told told row KeeperFault refused is = absurd is
