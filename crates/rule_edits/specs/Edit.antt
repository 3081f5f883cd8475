-- The program's edits as those of the definitions.
use Rattle.rule_values.specs.Kind.{kind_of}
use Rattle.rule_values.specs.Label.{label_bytes}
use Rattle.rule_values.specs.Selector.{selector_of}
use Rattle.policy_model.specs.Contents.{NewRow, Content, add, remove, enable, disable, expire, switch, Edit}
use Rattle.rule_edits.specs.declared.new_rule.NewRule.{NewRule}
use Rattle.rule_edits.specs.declared.edit.Content as code_content
use Rattle.rule_edits.specs.declared.edit.Content.TheVariants.{Add, Remove, Enable, Disable, Expire, Switch}
use Rattle.rule_edits.specs.declared.edit.Edit as code
use Rattle.rule_edits.specs.EditKey.{key_bytes}

-- the rule that an edit adds, field by field, the requirement as its tree
abbrev pub new_row : NewRule → NewRow
new_row r = record {
  kind = kind_of r.kind;
  allow = r.allow;
  priority = r.priority;
  expires = r.expires;
  label = label_bytes r.label;
  is_default = r.is_default;
  inhibit = r.inhibit;
  text = r.text;
  tree = r.tree;
}

-- what the edit does
abbrev pub content_of : code_content.Content → Content
content_of (Add rule) = add (new_row rule)
content_of (Remove s) = remove (selector_of s)
content_of (Enable s) = enable (selector_of s)
content_of (Disable s) = disable (selector_of s)
content_of (Expire s end) = expire (selector_of s) end
content_of (Switch on) = switch on

-- key and content
abbrev pub edit_of : code.Edit → Edit
edit_of e = record { key = key_bytes e.key; content = content_of e.content }
