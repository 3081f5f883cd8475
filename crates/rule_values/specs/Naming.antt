-- What a selector names.
use Rattle.std.specs.Prelude.{ℕ, length}
use Rattle.rule_values.specs.declared.selector.Which.{Which}
use Rattle.rule_values.specs.declared.selector.Which.TheVariants.{Id, Label}
use Rattle.rule_values.specs.Label.{label_bytes}

-- how many bytes of a label a selector compares; 1 where it compares an id
abbrev pub named_bytes : Which → ℕ
named_bytes (Id id) = 1
named_bytes (Label label) = length (label_bytes label)
