-- The promise of the requirement language: what bytes come back as when they are read, printed, read as a
-- text and written again. This project's own.
use Rattle.std.specs.Prelude.{ℕ, ◌≡◌, ◌↔◌, List, Option, None, Some}
use Rattle.req_tree.specs.Tree.{Tree}
use Rattle.req_tree.specs.TreeSet.{TreeSet}
use Rattle.req_tree.specs.Subject.{Subject}
use Rattle.req_tree.specs.Facts.{Facts}
use Rattle.req_tree.specs.Meaning.{mean}
use Rattle.req_tree.specs.Normal.{IsSpoken, normal}
use Rattle.req_blob.specs.Spelling.{IsSpelling, IsPlain}
use Rattle.req_ops.specs.Sets.{IsSetSpelling}
use Rattle.req_ops.specs.SetEncoding.{IsPlainSet}
use Rattle.dumped_text.specs.Sets.{normal_set}

-- the normal form means what the tree means, of whatever subject and facts
abbrev pub KeepsMeaning : Tree → Type 0
KeepsMeaning tree = (subject : Subject) (facts : Facts) → mean (normal tree) subject facts ≡ mean tree subject facts

-- the bytes spell a tree; those that came back are the plain bytes of its normal form, which means the same;
-- and they are the first ones exactly where those are plain and the tree is spoken
pub record ComesBack (bytes again : List ℕ) : Type 0 where
  pub tree : Tree
  pub spelt : IsSpelling tree bytes
  pub plain : IsPlain (normal tree) again
  pub meaning : KeepsMeaning tree
  pub same : (again ≡ bytes) ↔ (IsPlain tree bytes × IsSpoken tree)

-- the same of a part of a set, where it is there
abbrev pub KeepsPart : Option Tree → Type 0
KeepsPart None = Unit {0}
KeepsPart (Some tree) = KeepsMeaning tree

-- the normal form of each tree of the set means what the tree means
pub record KeepsSet (set : TreeSet) : Type 0 where
  pub host : KeepsPart set.host
  pub guest : KeepsPart set.guest
  pub designated : KeepsPart set.designated
  pub library : KeepsPart set.library
  pub plugin : KeepsPart set.plugin

-- a part of a set is spoken, where it is there
abbrev pub IsSpokenPart : Option Tree → Type 0
IsSpokenPart None = Unit {0}
IsSpokenPart (Some tree) = IsSpoken tree

-- each tree of the set is spoken
pub record IsSpokenSet (set : TreeSet) : Type 0 where
  pub host : IsSpokenPart set.host
  pub guest : IsSpokenPart set.guest
  pub designated : IsSpokenPart set.designated
  pub library : IsSpokenPart set.library
  pub plugin : IsSpokenPart set.plugin

-- the same of sets
pub record SetComesBack (bytes again : List ℕ) : Type 0 where
  pub set : TreeSet
  pub spelt : IsSetSpelling set bytes
  pub plain : IsPlainSet (normal_set set) again
  pub meaning : KeepsSet set
  pub same : (again ≡ bytes) ↔ (IsPlainSet set bytes × IsSpokenSet set)
