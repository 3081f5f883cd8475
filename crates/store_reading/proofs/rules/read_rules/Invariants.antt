use Rattle.std.specs.Prelude.{take}
use Rattle.raw_tables.specs.Raw.{plain_receipts, plain_rules}
use Rattle.store_reading.specs.Readings.{HoldsRules}
use Rattle.store_reading.proofs.rules.read_rules.Given as goal

abbrev pub invariant-loop-at : goal.invariant-loop-at
invariant-loop-at l = HoldsRules (plain_receipts l.receipts) (plain_rules (take l.at l.rows)) l.table
