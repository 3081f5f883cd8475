-- The fields of a stored rule beside its number and its requirement. This project's own.
use Rattle.std.specs.Prelude.{◌≡◌, ◌≤◌, ◌≤ℤ◌, ℕ, pos, List, length, option_map, IfSome}
use Rattle.req_tree.specs.Tree.{Tree}
use Rattle.policy_model.specs.declared.limits.TheConstants.{MOST_DISABLES, GREATEST_MOMENT, LEAST_PRIORITY, GREATEST_PRIORITY, MOST_LABEL_BYTES}
use Rattle.policy_model.specs.Rules.{Row}
use Rattle.rule_values.specs.Kind.{kind_of}
use Rattle.rule_values.specs.Label.{label_bytes}
use Rattle.store_model.specs.Raw.{RawRule}
use Rattle.store_model.specs.Accepted.{IsWithin, AreFlags}
use Rattle.store_model.specs.Stored.{kind_number, bool_number, flags_number}
use Rattle.store_reading.specs.declared.fields.Fields.{Fields}

-- each of these fields is one that a rule may have
pub record HasFields (r : RawRule) : Type 0 where
  pub kind : IsWithin 1 3 r.kind
  pub allow : IsWithin 0 1 r.allow
  pub disabled : IsWithin 0 MOST_DISABLES r.disabled
  pub expires : IfSome r.expires (IsWithin 0 GREATEST_MOMENT)
  pub priority : (LEAST_PRIORITY ≤ℤ r.priority) × (r.priority ≤ℤ GREATEST_PRIORITY)
  pub flags : AreFlags r.flags
  pub label : length r.label ≤ MOST_LABEL_BYTES

-- the stored rule says this
pub record Says (r : RawRule) (f : Fields) : Type 0 where
  pub kind : kind_number (kind_of f.kind) ≡ r.kind
  pub allow : bool_number f.allow ≡ r.allow
  pub disabled : pos f.disabled ≡ r.disabled
  pub expires : option_map pos f.expires ≡ r.expires
  pub priority : f.priority ≡ r.priority
  pub flags : flags_number f.flags.is_default f.flags.inhibit ≡ r.flags
  pub label : label_bytes f.label ≡ r.label

-- the row of a rule with these fields, this number and this requirement
abbrev pub row_with : Fields → ℕ → List ℕ → Tree → Row
row_with f id text tree = record {
  id = id;
  kind = kind_of f.kind;
  allow = f.allow;
  disabled = f.disabled;
  expires = f.expires;
  priority = f.priority;
  is_default = f.flags.is_default;
  inhibit = f.flags.inhibit;
  label = label_bytes f.label;
  text = text;
  tree = tree;
}
