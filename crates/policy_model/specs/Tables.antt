-- What is kept of rules and edits, and what an edit answers. This project's own.
use Rattle.std.specs.Prelude.{ℕ, List, Bool, ⊤}
use Rattle.policy_model.specs.Rules.{Row}

-- what is kept of an accepted edit: its number, its key, its canonical text, and how many rules it touched
pub record Receipt : Type 0 where
  pub number : ℕ
  pub key : List ℕ
  pub content : List ℕ
  pub rules : ℕ

-- rows and receipts in the order of their making, and whether assessments are switched on
pub record Tables : Type 0 where
  pub rows : List Row
  pub receipts : List Receipt
  pub enabled : Bool

-- done and repeated: the edit's number, and how many rules it touched; key_reused: those of the kept edit
pub data Answer : Type 0 where
  done : ℕ → ℕ → Answer
  repeated : ℕ → ℕ → Answer
  key_reused : ℕ → ℕ → Answer
  no_rule : Answer
  table_full : Answer
  receipts_full : Answer
  disable_full : ℕ → Answer

-- the edit was accepted: it wasn't refused, and wasn't done before
abbrev pub IsAccepted : Answer → Type 0
IsAccepted (done n k) = ⊤
IsAccepted other = ⊥

-- an answer, the tables afterwards, and the rows that were touched, as they were before (an added one as it is)
pub record Effect : Type 0 where
  pub answer : Answer
  pub tables : Tables
  pub touched : List Row
