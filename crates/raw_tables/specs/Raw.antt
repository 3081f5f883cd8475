-- The program's stored rows as those of the definitions.
use Rattle.std.specs.Prelude.{List, map}
use Rattle.store_model.specs.Raw.{RawReceipt, RawRule, RawTables}
use Rattle.raw_tables.specs.declared.receipt.RawReceipt as code_receipt
use Rattle.raw_tables.specs.declared.rule.RawRule as code_rule
use Rattle.raw_tables.specs.declared.tables.RawTables as code_tables

-- a receipt, field by field
abbrev pub plain_receipt : code_receipt.RawReceipt → RawReceipt
plain_receipt r = record { num = r.num; key = r.key; content = r.content; rules = r.rules }

-- a rule, field by field
abbrev pub plain_rule : code_rule.RawRule → RawRule
plain_rule r = record {
  id = r.id;
  kind = r.kind;
  allow = r.allow;
  disabled = r.disabled;
  expires = r.expires;
  priority = r.priority;
  flags = r.flags;
  label = r.label;
  requirement = r.requirement;
}

-- receipts in their order
abbrev pub plain_receipts : List code_receipt.RawReceipt → List RawReceipt
plain_receipts receipts = map plain_receipt receipts

-- rules in their order
abbrev pub plain_rules : List code_rule.RawRule → List RawRule
plain_rules rules = map plain_rule rules

-- all that is stored
abbrev pub plain_tables : code_tables.RawTables → RawTables
plain_tables t = record {
  format = t.format;
  switch = t.switch;
  receipts = plain_receipts t.receipts;
  rules = plain_rules t.rules;
}
