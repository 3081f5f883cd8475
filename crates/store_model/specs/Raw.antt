-- The rows of a store as they are kept in it: numbers and bytes. This project's own.
use Rattle.std.specs.Prelude.{ℕ, ℤ, List, Option}

-- a stored receipt of an edit; rules is how many it touched
pub record RawReceipt : Type 0 where
  pub num : ℤ
  pub key : List ℕ
  pub content : List ℕ
  pub rules : ℤ

-- a stored rule; expires is a moment in seconds, or none, and priority is in millionths
pub record RawRule : Type 0 where
  pub id : ℤ
  pub kind : ℤ
  pub allow : ℤ
  pub disabled : ℤ
  pub expires : Option ℤ
  pub priority : ℤ
  pub flags : ℤ
  pub label : List ℕ
  pub requirement : List ℕ

-- all that is stored, whatever it is: receipts by rising num, rules by rising id
pub record RawTables : Type 0 where
  pub format : ℤ
  pub switch : ℤ
  pub receipts : List RawReceipt
  pub rules : List RawRule

-- a place in a store: its format, its switch, the receipt of a num, the rule of an id
pub data StoreRow : Type 0 where
  format_row : StoreRow
  switch_row : StoreRow
  receipt_row : ℤ → StoreRow
  rule_row : ℤ → StoreRow
