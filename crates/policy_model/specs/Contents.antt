-- What an edit asks for. This project's own, after --add, --remove, --enable, --disable of spctl(8).
use Rattle.std.specs.Prelude.{◌≢◌, ℕ, ℤ, ◌≤◌, List, length, All, Bool, Option}
use Rattle.req_tree.specs.Tree.{Tree}
use Rattle.policy_model.specs.declared.limits.TheConstants.{MOST_TEXT_BYTES}
use Rattle.policy_model.specs.Rules.{Kind}

-- the rule that an edit adds; its text is what was given for its tree
pub record NewRow : Type 0 where
  pub kind : Kind
  pub allow : Bool
  pub priority : ℤ
  pub expires : Option ℕ
  pub label : List ℕ
  pub is_default : Bool
  pub inhibit : Bool
  pub text : List ℕ
  pub tree : Tree

-- the text of a rule's requirement: it isn't too long, and stands on one line
pub record IsRuleText (text : List ℕ) : Type 0 where
  pub short : length text ≤ MOST_TEXT_BYTES
  pub one_line : All (λ b. b ≢ 10) text

-- an id or a label
pub data Which : Type 0 where
  by_id : ℕ → Which
  by_label : List ℕ → Which

-- the rules with an id or a label, in one kind or in any
pub record Selector : Type 0 where
  pub which : Which
  pub kind : Option Kind

-- what an edit asks for
pub data Content : Type 0 where
  add : NewRow → Content
  remove : Selector → Content
  enable : Selector → Content
  disable : Selector → Content
  expire : Selector → Option ℕ → Content
  switch : Bool → Content

-- a content under a key, by which a repeat is known
pub record Edit : Type 0 where
  pub key : List ℕ
  pub content : Content
