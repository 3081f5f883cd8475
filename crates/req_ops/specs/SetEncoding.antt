-- As which bytes a set of requirements is written. (This project's own.)
use Rattle.std.specs.Prelude.{ℕ, zero, suc, ◌≡◌, List, [], ◌∷◌, ◌++◌, Option, None, Some}
use Rattle.req_tree.specs.Tree.{Tree}
use Rattle.req_tree.specs.TreeSet.{TreeSet, part_of}
use Rattle.cs_blob.specs.Writing.{written}
use Rattle.req_blob.specs.Spelling.{plain_blob}
use Rattle.req_ops.specs.Sets.{set_magic, IsSetSpelling}

-- the plain part of a type, where there is a tree
abbrev pub part_under : ℕ → Option Tree → List (ℕ × List ℕ)
part_under kind None = []
part_under kind (Some tree) = (kind, plain_blob tree) ∷ []

-- the plain parts of the types below a number, in rising order
abbrev pub parts_below : ℕ → TreeSet → List (ℕ × List ℕ)
parts_below zero s = []
parts_below (suc kind) s = parts_below kind s ++ part_under kind (part_of kind s)

-- the plain bytes of a set: plain parts under rising types, without gaps
unfoldable pub plain_set : TreeSet → List ℕ
plain_set s = written (record { magic = set_magic; parts = parts_below 6 s })

-- the bytes spell the set, in plain parts under rising types and without gaps
pub record IsPlainSet (s : TreeSet) (bytes : List ℕ) : Type 0 where
  pub spelled : IsSetSpelling s bytes
  pub plain_is : bytes ≡ plain_set s
