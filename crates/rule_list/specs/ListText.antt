-- The text of all rules, as an administrator reads it. This project's own, after --list of spctl(8).
use Rattle.std.specs.Prelude.{◌≡◌, ℕ, List, [], ◌∷◌, ◌++◌, codes, decimal}
use Rattle.std.specs.List.{flat_map}
use Rattle.line_text.specs.WordText.{word_text}
use Rattle.policy_model.specs.Rules.{Row, Kind, execute, install, document}
use Rattle.policy_model.specs.Texts.{kind_text, verdict_word, priority_text, expiry_text, flags_text}
use Rattle.authority_table.specs.Snapshot.{IsSnapshot}

-- a rule's number, type, verdict and priority
unfoldable pub rule_head : Row → List ℕ
rule_head r =
    codes "rule=" ++ decimal r.id ++ codes " type=" ++ kind_text r.kind ++ codes " verdict=" ++ verdict_word r.allow
    ++ codes " priority=" ++ priority_text r.priority

-- a rule's count of disablings, its end, its flags and its label
unfoldable pub rule_terms : Row → List ℕ
rule_terms r =
    codes " disabled=" ++ decimal r.disabled ++ codes " expires=" ++ expiry_text r.expires
    ++ codes " flags=" ++ flags_text r.is_default r.inhibit ++ codes " label=" ++ word_text r.label

-- a rule's line up to its requirement
abbrev pub rule_front : Row → List ℕ
rule_front r = rule_head r ++ rule_terms r ++ codes " require="

-- a rule's line, with the LF that ends it
abbrev pub rule_line : Row → List ℕ
rule_line r = rule_front r ++ word_text r.text ++ 10 ∷ []

-- the lines of rules, in their order
abbrev pub rule_lines : List Row → List ℕ
rule_lines rows = flat_map rule_line rows

-- a line a rule: those to execute, then those to install, then those to open, and within a kind the one that is tried first in front
pub record IsListText (rows : List Row) (text : List ℕ) : Type 0 where
  pub executes : List Row
  pub installs : List Row
  pub documents : List Row
  pub first : IsSnapshot rows execute executes
  pub second : IsSnapshot rows install installs
  pub third : IsSnapshot rows document documents
  pub all : text ≡ rule_lines executes ++ rule_lines installs ++ rule_lines documents
