-- What the keeper in memory holds. This project's own.
use Rattle.std.specs.Prelude.{ℕ, pos, List, []}
use Rattle.store_model.specs.declared.limits.TheConstants.{STORE_FORMAT}
use Rattle.store_model.specs.Raw.{RawTables}
use Rattle.memory_keeper.specs.Kept.{kept_rows}
use Rattle.memory_keeper.specs.declared.keeper.MemoryKeeper.{MemoryKeeper}

-- what a new store holds: no rows, and assessments are switched on
abbrev pub no_rows : RawTables
no_rows = record { format = STORE_FORMAT; switch = pos 1; receipts = []; rules = [] }

-- the stored rows
abbrev pub kept : MemoryKeeper → RawTables
kept k = kept_rows k.rows

-- the numbers of the calls that fail
abbrev pub keeper_failing : MemoryKeeper → List ℕ
keeper_failing k = k.failing

-- how many calls there were
abbrev pub keeper_calls : MemoryKeeper → ℕ
keeper_calls k = k.calls

-- how many calls failed
abbrev pub keeper_faults : MemoryKeeper → ℕ
keeper_faults k = k.faults
