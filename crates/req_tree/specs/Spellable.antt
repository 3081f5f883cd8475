-- Which trees have bytes and a text at all, whatever their length.
-- This project's own: a tree is at most 256 deep, and the key of a certificate's field doesn't begin as
-- the text of another opcode does.
use Rattle.std.specs.Prelude.{ℕ, ◌≡◌, ◌%◌, ◌^◌, ◌<◌, ◌≤◌, Bool, false, ◌==◌, ◌||◌, List, codes}
use Rattle.std.specs.List.{starts_with}
use Rattle.req_tree.specs.declared.limits.TheConstants.{MOST_DEPTH}
use Rattle.req_tree.specs.Tree as t
use Rattle.req_tree.specs.Tree.{Tree}
use Rattle.req_tree.specs.Depth.{depth_of}

-- the key begins as those that text gives to other opcodes: field. policy. timestamp.
abbrev pub is_reserved : List ℕ → Bool
is_reserved key = starts_with ◌==◌ key (codes "field.") || starts_with ◌==◌ key (codes "policy.") || starts_with ◌==◌ key (codes "timestamp.")

-- no known opcode, with the highest bit: false, whatever it would have said
pub record IsSkipFalse (op : ℕ) : Type 0 where
  pub unknown : 24 ≤ op % 2 ^ 24
  pub flagged : 2 ^ 31 ≤ op
  pub small : op < 2 ^ 32

-- no known opcode, with the second bit and without the highest: as if it were not there
pub record IsSkipNext (op : ℕ) : Type 0 where
  pub unknown : 24 ≤ op % 2 ^ 24
  pub flagged : 2 ^ 30 ≤ op
  pub small : op < 2 ^ 31

-- no key of a certificate's field is another opcode's, and what is skipped is unknown and says so
abbrev pub CanSpell : Tree → Type 0
CanSpell (t.both left right) = CanSpell left × CanSpell right
CanSpell (t.either left right) = CanSpell left × CanSpell right
CanSpell (t.negate inner) = CanSpell inner
CanSpell (t.cert_field slot key test) = is_reserved key ≡ false
CanSpell (t.skip_false op skipped) = IsSkipFalse op
CanSpell (t.skip_next op skipped inner) = IsSkipNext op × CanSpell inner
CanSpell tree = Unit {0}

-- the tree is no deeper than a requirement may be
abbrev pub IsShallow : Tree → Type 0
IsShallow tree = depth_of tree ≤ MOST_DEPTH

-- a tree that is written, unless its blob is too long
pub record IsEncodable (tree : Tree) : Type 0 where
  pub shallow : IsShallow tree
  pub spellable : CanSpell tree
