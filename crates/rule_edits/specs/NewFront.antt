-- The words in front of an added rule's requirement as plain data.
use Rattle.rule_values.specs.Kind.{kind_of}
use Rattle.rule_values.specs.Label.{label_bytes}
use Rattle.line_words.specs.Flags.{flags_of}
use Rattle.line_model.specs.Fronts as model
use Rattle.rule_edits.specs.declared.front.Front.{Front}
use Rattle.rule_edits.specs.declared.front.Terms.{Terms}

-- the terms of a rule
abbrev pub terms_of : Terms → model.Terms
terms_of t = record { priority = t.priority; expires = t.expires; label = label_bytes t.label; flags = flags_of t.flags }

-- the rule that is added, but for its requirement
abbrev pub added_front : Front → model.Front
added_front f = record { kind = kind_of f.kind; allow = f.allow; terms = terms_of f.terms }
