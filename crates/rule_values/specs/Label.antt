-- What a label holds.
use Rattle.std.specs.Prelude.{ℕ, List}
use Rattle.rule_values.specs.declared.label.Label.{Label}

-- the bytes of a label
abbrev pub label_bytes : Label → List ℕ
label_bytes label = label.bytes.items
