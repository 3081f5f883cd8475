use Rattle.std.specs.Prelude.{take}
use Rattle.raw_tables.specs.Raw.{plain_receipts}
use Rattle.store_reading.specs.Readings.{HoldsReceipts}
use Rattle.store_reading.proofs.receipts.read_receipts.Given as goal

abbrev pub invariant-loop-row : goal.invariant-loop-row
invariant-loop-row l = HoldsReceipts (plain_receipts (take l.row-index l.rows)) l.receipts
