-- The program's places in a store as those of the definitions, and when a store is refused. This project's own.
use Rattle.std.specs.Prelude.{◌≡◌, ⊤, List}
use Rattle.store_model.specs.Raw as model
use Rattle.store_model.specs.Raw.{RawReceipt, RawRule, RawTables, format_row, switch_row, receipt_row, rule_row}
use Rattle.store_model.specs.Accepted.{AcceptsReceipts, AcceptsRules}
use Rattle.store_model.specs.Refused.{IsFirstBad, IsRefusedAt}
use Rattle.store_reading.specs.declared.fault.StoreRow.{StoreRow}
use Rattle.store_reading.specs.declared.fault.StoreRow.TheVariants.{Format, Switch, Receipt, Rule}
use Rattle.store_reading.specs.declared.fault.StoreFault.{StoreFault}
use Rattle.store_reading.specs.declared.fault.StoreFault.TheVariants.{BadStore, OutOfMemory}

-- the place of the definitions
abbrev pub place_of : StoreRow → model.StoreRow
place_of Format = format_row
place_of Switch = switch_row
place_of (Receipt num) = receipt_row num
place_of (Rule id) = rule_row id

-- the store is refused at the place of the fault, unless memory ran out
abbrev pub IsRefused : StoreFault → RawTables → Type 0
IsRefused (BadStore row) raw = IsRefusedAt raw (place_of row)
IsRefused OutOfMemory raw = ⊤

-- the fault names the first bad one of stored receipts, unless memory ran out
abbrev pub IsBadReceipt : List RawReceipt → StoreFault → Type 0
IsBadReceipt rows (BadStore (Receipt num)) = (r : RawReceipt) × (r.num ≡ num) × IsFirstBad AcceptsReceipts rows r
IsBadReceipt rows (BadStore other) = ⊥
IsBadReceipt rows OutOfMemory = ⊤

-- the fault names the first bad one of stored rules beside these receipts, unless memory ran out
abbrev pub IsBadRule : List RawReceipt → List RawRule → StoreFault → Type 0
IsBadRule receipts rows (BadStore (Rule id)) = (r : RawRule) × (r.id ≡ id) × IsFirstBad (AcceptsRules receipts) rows r
IsBadRule receipts rows (BadStore other) = ⊥
IsBadRule receipts rows OutOfMemory = ⊤
