-- The rows in which tables are stored, and which tables stored rows mean. This project's own.
use Rattle.std.specs.Prelude.{◌≡◌, ℤ, pos, map, All, Bool, option_map, if◌then◌else◌}
use Rattle.req_grammar.specs.Readings.{IsRequirementText}
use Rattle.policy_model.specs.Rules.{Row, Kind, execute, install, document}
use Rattle.policy_model.specs.Tables.{Receipt, Tables}
use Rattle.store_model.specs.declared.limits.TheConstants.{STORE_FORMAT}
use Rattle.store_model.specs.Raw.{RawReceipt, RawRule, RawTables}
use Rattle.store_model.specs.Upgraded.{upgraded}

-- kinds are numbered from 1
abbrev pub kind_number : Kind → ℤ
kind_number execute = pos 1
kind_number install = pos 2
kind_number document = pos 3

-- 1 for yes, 0 for no
abbrev pub bool_number : Bool → ℤ
bool_number b = if b then pos 1 else pos 0

-- 2 for a default rule, and 4 more for one whose outcomes aren't kept
abbrev pub flags_number : Bool → Bool → ℤ
flags_number is_default inhibit = if is_default then (if inhibit then pos 6 else pos 2) else if inhibit then pos 4 else pos 0

-- the row in which a receipt is stored
abbrev pub raw_receipt : Receipt → RawReceipt
raw_receipt r = record { num = pos r.number; key = r.key; content = r.content; rules = pos r.rules }

-- the row in which a rule is stored: its requirement as its text, without the tree
abbrev pub raw_rule : Row → RawRule
raw_rule r = record {
  id = pos r.id;
  kind = kind_number r.kind;
  allow = bool_number r.allow;
  disabled = pos r.disabled;
  expires = option_map pos r.expires;
  priority = r.priority;
  flags = flags_number r.is_default r.inhibit;
  label = r.label;
  requirement = r.text;
}

-- the rows in which tables are stored
abbrev pub raw_of_tables : Tables → RawTables
raw_of_tables t = record {
  format = STORE_FORMAT;
  switch = bool_number t.enabled;
  receipts = map raw_receipt t.receipts;
  rules = map raw_rule t.rows;
}

-- the rules' trees are those of their texts
abbrev pub HaveTrees : Tables → Type 0
HaveTrees t = All (λ (r : Row). ∥ IsRequirementText r.text r.tree ∥₁) t.rows

-- these stored rows mean these tables
pub record Holds (raw : RawTables) (t : Tables) : Type 0 where
  pub stored : upgraded raw ≡ raw_of_tables t
  pub trees : HaveTrees t
