-- The rows that a keeper in memory holds.
use Rattle.std.specs.Prelude.{List}
use Rattle.store_model.specs.Raw.{RawTables}
use Rattle.raw_tables.specs.declared.rule.RawRule.{RawRule}
use Rattle.raw_tables.specs.Raw.{plain_receipts, plain_rules}
use Rattle.memory_keeper.specs.declared.kept_rules.KeptRules.{KeptRules}
use Rattle.memory_keeper.specs.declared.kept_rules.KeptRules.TheVariants.{Given, Held}
use Rattle.memory_keeper.specs.declared.kept_rows.KeptRows.{KeptRows}

-- the stored rules, wherever they are in memory
abbrev pub rules_in : KeptRules → List RawRule
rules_in (Given rules) = rules
rules_in (Held rules) = rules

-- the stored rows
abbrev pub kept_rows : KeptRows → RawTables
kept_rows k = record {
  format = k.format;
  switch = k.switch;
  receipts = plain_receipts k.receipts;
  rules = plain_rules (rules_in k.rules);
}
