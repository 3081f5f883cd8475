use Rattle.store_reading.specs.Fault.{place_of}
use Rattle.desk_opening.proofs.RowTold.{row_is_told}
use Rattle.desk_opening.proofs.opening.load_desk.Goals as goal

pub returns-in-Err-BadStore-clause-unloaded : goal.returns-in-Err-BadStore-clause-unloaded
returns-in-Err-BadStore-clause-unloaded g c =
    row_is_told (g.K.Keeper.told c.load.new.keeper) (place_of c.in-Err-BadStore.row) c.refusal.result (rw c.in-Err-BadStore.field-0-is at c.in-Err-BadStore.ensures.loaded) c.refusal.ensures
