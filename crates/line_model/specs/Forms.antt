-- The words of a line, each in its place. This project's own.
use Rattle.std.specs.Prelude.{ℕ, ℤ, List, Bool, Option, Result}
use Rattle.req_tree.specs.HashWord.{hash_word}
use Rattle.policy_model.specs.Rules.{Kind}
use Rattle.line_model.specs.Words.{moment_word, expiry_word, kind_word, any_kind_word, allow_word, priority_word, label_word, name_word, rule_word, switch_word, Flags, flags_word, key_word, identifier_word, platform_word}
use Rattle.line_model.specs.LineFaults.{LineFault, bad_priority, bad_moment, bad_label, bad_key}
use Rattle.line_model.specs.Left.{Left, value_at, misfit}

-- a moment
abbrev pub moment_at : Left → Result (ℕ × Left) LineFault
moment_at left = value_at moment_word bad_moment left

-- a moment or never
abbrev pub expiry_at : Left → Result (Option ℕ × Left) LineFault
expiry_at left = value_at expiry_word bad_moment left

-- a kind
abbrev pub kind_at : Left → Result (Kind × Left) LineFault
kind_at left = value_at kind_word (misfit left) left

-- a kind, or any
abbrev pub any_kind_at : Left → Result (Option Kind × Left) LineFault
any_kind_at left = value_at any_kind_word (misfit left) left

-- whether a rule allows
abbrev pub allow_at : Left → Result (Bool × Left) LineFault
allow_at left = value_at allow_word (misfit left) left

-- a priority
abbrev pub priority_at : Left → Result (ℤ × Left) LineFault
priority_at left = value_at priority_word bad_priority left

-- a label
abbrev pub label_at : Left → Result (List ℕ × Left) LineFault
label_at left = value_at label_word bad_label left

-- a label that isn't empty
abbrev pub name_at : Left → Result (List ℕ × Left) LineFault
name_at left = value_at name_word bad_label left

-- a rule's number
abbrev pub rule_at : Left → Result (ℕ × Left) LineFault
rule_at left = value_at rule_word (misfit left) left

-- on or off
abbrev pub switch_at : Left → Result (Bool × Left) LineFault
switch_at left = value_at switch_word (misfit left) left

-- flags
abbrev pub flags_at : Left → Result (Flags × Left) LineFault
flags_at left = value_at flags_word (misfit left) left

-- the key of an edit
abbrev pub key_at : Left → Result (List ℕ × Left) LineFault
key_at left = value_at key_word bad_key left

-- the hash of code
abbrev pub hash_at : Left → Result (List ℕ × Left) LineFault
hash_at left = value_at hash_word (misfit left) left

-- an identifier
abbrev pub identifier_at : Left → Result (List ℕ × Left) LineFault
identifier_at left = value_at identifier_word (misfit left) left

-- a platform's number
abbrev pub platform_at : Left → Result (ℕ × Left) LineFault
platform_at left = value_at platform_word (misfit left) left
