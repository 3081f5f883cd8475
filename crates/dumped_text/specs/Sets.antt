-- The normal form of a set, and which sets have a text that can be read. This project's own.
use Rattle.std.specs.Prelude.{ℕ, Option, None, Some, option_map, IfSome}
use Rattle.req_tree.specs.Tree.{Tree}
use Rattle.req_tree.specs.TreeSet.{TreeSet, part_of}
use Rattle.req_tree.specs.Normal.{normal}
use Rattle.req_tree.specs.Spellable.{CanSpell}
use Rattle.dumped_text.specs.Sayable.{IsKept}

-- each tree of the set in its normal form
abbrev pub normal_set : TreeSet → TreeSet
normal_set set = record {
  host = option_map normal set.host;
  guest = option_map normal set.guest;
  designated = option_map normal set.designated;
  library = option_map normal set.library;
  plugin = option_map normal set.plugin;
}

-- what the program's types keep of a part, where it is there
abbrev pub IsKeptPart : Option Tree → Type 0
IsKeptPart None = Unit {0}
IsKeptPart (Some tree) = IsKept tree

-- the same of each part of a set
pub record IsKeptSet (set : TreeSet) : Type 0 where
  pub host : IsKeptPart set.host
  pub guest : IsKeptPart set.guest
  pub designated : IsKeptPart set.designated
  pub library : IsKeptPart set.library
  pub plugin : IsKeptPart set.plugin

-- what the types keep, and no key of a field stands for another test
pub record IsSayableSet (set : TreeSet) : Type 0 where
  pub kept : IsKeptSet set
  pub spellable : (kind : ℕ) → IfSome (part_of kind set) CanSpell
