-- What a content holds, so that its words fit a line. This project's own.
use Rattle.std.specs.Prelude.{◌≢◌, ℕ, ◌≤◌, ◌<◌, ℤ, unsigned_abs, List, [], length, All, Option, IfSome, ⊤}
use Rattle.req_grammar.specs.Readings.{IsRequirementText}
use Rattle.policy_model.specs.declared.limits.TheConstants.{GREATEST_MOMENT, GREATEST_PRIORITY, MOST_LABEL_BYTES, MOST_RECEIPTS}
use Rattle.policy_model.specs.Contents.{NewRow, IsRuleText, Which, by_id, by_label, Content, add, remove, enable, disable, expire, switch}

-- each is a byte
abbrev pub AreBytes : List ℕ → Type 0
AreBytes bytes = All (λ b. b < 256) bytes

-- a label is bytes, and not too many
pub record IsLabel (label : List ℕ) : Type 0 where
  pub bytes : AreBytes label
  pub few : length label ≤ MOST_LABEL_BYTES

-- an end is none, or a moment that a line can name
abbrev pub IsExpiry : Option ℕ → Type 0
IsExpiry expires = IfSome expires (λ m. m ≤ GREATEST_MOMENT)

-- a priority is neither too great nor too small
abbrev pub IsPriority : ℤ → Type 0
IsPriority p = unsigned_abs p ≤ unsigned_abs GREATEST_PRIORITY

-- an added rule: its words fit a line, and its text reads as its tree
pub record IsRule (n : NewRow) : Type 0 where
  pub priority : IsPriority n.priority
  pub expires : IsExpiry n.expires
  pub label : IsLabel n.label
  pub text : IsRuleText n.text
  pub reads : IsRequirementText n.text n.tree

-- a rule's number that an edit can have given, or a label that isn't empty
abbrev pub IsName : Which → Type 0
IsName (by_id n) = (1 ≤ n) × (n ≤ MOST_RECEIPTS)
IsName (by_label l) = (l ≢ []) × IsLabel l

-- a content whose words fit a line
abbrev pub FitsLine : Content → Type 0
FitsLine (add n) = IsRule n
FitsLine (remove s) = IsName s.which
FitsLine (enable s) = IsName s.which
FitsLine (disable s) = IsName s.which
FitsLine (expire s m) = IsName s.which × IsExpiry m
FitsLine (switch on) = ⊤
