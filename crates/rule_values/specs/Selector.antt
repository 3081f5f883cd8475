-- The program's selectors and changes as those of the definitions.
use Rattle.std.specs.Prelude.{option_map}
use Rattle.policy_model.specs.Contents.{Which, by_id, by_label, Selector, Content, remove, enable, disable, expire}
use Rattle.rule_values.specs.declared.selector.Which as code_which
use Rattle.rule_values.specs.declared.selector.Which.TheVariants.{Id, Label}
use Rattle.rule_values.specs.declared.selector.Selector as code
use Rattle.rule_values.specs.declared.row_change.RowChange.{RowChange}
use Rattle.rule_values.specs.declared.row_change.RowChange.TheVariants.{Remove, Enable, Disable, Expire}
use Rattle.rule_values.specs.Kind.{kind_of}
use Rattle.rule_values.specs.Label.{label_bytes}

-- an id, or the bytes of a label
abbrev pub which_of : code_which.Which → Which
which_of (Id id) = by_id id
which_of (Label label) = by_label (label_bytes label)

-- an id or a label, in one kind or in any
abbrev pub selector_of : code.Selector → Selector
selector_of s = record { which = which_of s.which; kind = option_map kind_of s.kind }

-- the content of an edit that changes the selected rules so
abbrev pub content_by : code.Selector → RowChange → Content
content_by s Remove = remove (selector_of s)
content_by s Enable = enable (selector_of s)
content_by s Disable = disable (selector_of s)
content_by s (Expire end) = expire (selector_of s) end
