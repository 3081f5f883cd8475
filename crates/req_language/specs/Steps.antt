-- The steps between bytes and text. This project's own.
use Rattle.std.specs.Prelude.{ℕ, ◌≡◌, List}
use Rattle.req_tree.specs.Tree.{Tree}
use Rattle.req_tree.specs.TreeSet.{TreeSet}
use Rattle.req_blob.specs.Spelling.{IsSpelling}
use Rattle.req_ops.specs.Sets.{IsSetSpelling}
use Rattle.dumped_text.specs.Dumped.{dumped, dumped_set}
use Rattle.dumped_text.specs.Sayable.{IsSayable}
use Rattle.dumped_text.specs.Sets.{IsSayableSet}

-- the text is that of the tree that the bytes spell
pub record IsTextOf (bytes text : List ℕ) : Type 0 where
  pub tree : Tree
  pub spelt : IsSpelling tree bytes
  pub sayable : IsSayable tree
  pub text_is : text ≡ dumped tree

-- the same of a set
pub record IsSetTextOf (bytes text : List ℕ) : Type 0 where
  pub set : TreeSet
  pub spelt : IsSetSpelling set bytes
  pub sayable : IsSayableSet set
  pub text_is : text ≡ dumped_set set
