-- What the keeper of a named store tells, and how many of its calls failed.
use Rattle.std.specs.Prelude.{ℕ, Some, None}
use Rattle.policy_keeper.specs.Told.{Told}
use Rattle.memory_keeper.specs.Memory.{kept, keeper_faults}
use Rattle.sql_keeper.specs.declared.program_keeper.Store.{Store}
use Rattle.sql_keeper.specs.declared.program_keeper.Store.TheVariants.{Memory, Unopened, Opened, Unopenable}

-- the rows in memory; a file tells nothing
abbrev pub store_told : Store → Told
store_told (Memory keeper) = Some (kept keeper)
store_told Unopened = None
store_told (Opened keeper) = None
store_told (Unopenable faults) = None

-- the failures of the keeper in memory or over the opened file, or the calls on a file that couldn't be opened
abbrev pub store_faults : Store → ℕ
store_faults (Memory keeper) = keeper_faults keeper
store_faults Unopened = 0
store_faults (Opened keeper) = keeper.faults
store_faults (Unopenable faults) = faults
