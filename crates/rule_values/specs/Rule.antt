-- The program's rules as rows of the definitions.
use Rattle.std.specs.Prelude.{List, map}
use Rattle.policy_model.specs.Rules.{Row}
use Rattle.rule_values.specs.declared.rule.Rule.{Rule}
use Rattle.rule_values.specs.Kind.{kind_of}
use Rattle.rule_values.specs.Label.{label_bytes}

-- a rule as a row: field by field, the requirement as its tree
abbrev pub row_of : Rule → Row
row_of r = record {
  id = r.id;
  kind = kind_of r.kind;
  allow = r.allow;
  disabled = r.disabled;
  expires = r.expires;
  priority = r.priority;
  is_default = r.is_default;
  inhibit = r.inhibit;
  label = label_bytes r.label;
  text = r.text;
  tree = r.tree;
}

-- rules as rows, in their order
abbrev pub rows_of : List Rule → List Row
rows_of rules = map row_of rules
