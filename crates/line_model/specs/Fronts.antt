-- The rule that a line adds, but for its requirement. This project's own.
use Rattle.std.specs.Prelude.{ℕ, ℤ, List, Bool, Option, Result, Ok}
use Rattle.req_tree.specs.Tree.{Tree}
use Rattle.policy_model.specs.Rules.{Kind}
use Rattle.policy_model.specs.Contents.{NewRow}
use Rattle.line_model.specs.Words.{Flags}
use Rattle.line_model.specs.LineFaults.{LineFault}
use Rattle.line_model.specs.Left.{Left, ◌>>=◌}
use Rattle.line_model.specs.Forms.{expiry_at, kind_at, allow_at, priority_at, label_at, flags_at}

-- when a rule is tried, until when it is in force, its name and its flags
pub record Terms : Type 0 where
  pub priority : ℤ
  pub expires : Option ℕ
  pub label : List ℕ
  pub flags : Flags

-- PRIORITY EXPIRY LABEL FLAGS
abbrev pub terms_at : Left → Result (Terms × Left) LineFault
terms_at left = do
  priority ← priority_at left
  expires ← expiry_at priority.1
  label ← label_at expires.1
  flags ← flags_at label.1
  Ok (record { priority = priority.0; expires = expires.0; label = label.0; flags = flags.0 }, flags.1)

-- the rule that is added, but for its requirement
pub record Front : Type 0 where
  pub kind : Kind
  pub allow : Bool
  pub terms : Terms

-- KIND VERDICT and the terms
abbrev pub front_at : Left → Result (Front × Left) LineFault
front_at left = do
  kind ← kind_at left
  allow ← allow_at kind.1
  terms ← terms_at allow.1
  Ok (record { kind = kind.0; allow = allow.0; terms = terms.0 }, terms.1)

-- the rule of this front with a requirement's text and tree
abbrev pub new_row : Front → List ℕ → Tree → NewRow
new_row front text tree = record {
  kind = front.kind;
  allow = front.allow;
  priority = front.terms.priority;
  expires = front.terms.expires;
  label = front.terms.label;
  is_default = front.terms.flags.is_default;
  inhibit = front.terms.flags.inhibit;
  text = text;
  tree = tree;
}
