-- What was read of a store, as tables. This project's own.
use Rattle.policy_model.specs.Tables.{Tables}
use Rattle.rule_values.specs.Rule.{rows_of}
use Rattle.edit_receipts.specs.Receipts.{receipts_of}
use Rattle.store_reading.specs.declared.store.StoredTables.{StoredTables}

-- its rules, its receipts and its switch
abbrev pub tables_of : StoredTables → Tables
tables_of s = record { rows = rows_of s.table; receipts = receipts_of s.receipts; enabled = s.enabled }
