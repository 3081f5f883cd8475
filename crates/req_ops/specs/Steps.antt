-- How far a set is read or written, in steps of the definitions.
use Rattle.std.specs.Prelude.{ℕ, ◌≡◌, ◌≢◌, ◌<◌, ◌≤◌, ◌+◌, ◌*◌, length, Some, Ok, IfSome}
use Rattle.std.specs.Option.{MatchOption}
use Rattle.std.specs.Prelude.{List}
use Rattle.req_tree.specs.Tree.{Tree}
use Rattle.req_tree.specs.TreeSet.{TreeSet, IsSetKind, part_of}
use Rattle.cs_blob.specs.SuperBlobs.{kind_at, part_at}
use Rattle.cs_blob.specs.Writing.{Draft, total_of}
use Rattle.req_blob.specs.declared.limits.TheConstants.{MOST_BYTES}
use Rattle.req_blob.specs.Spelling.{IsSpelling, plain_blob}
use Rattle.req_blob.specs.Decoding.{decoded}
use Rattle.req_ops.specs.Sets.{set_magic, ReadTo}
use Rattle.req_ops.specs.SetEncoding.{parts_below}

-- the set has just the trees of the entries before one
pub record HasRead (whole : List ℕ) (index : ℕ) (set : TreeSet) : Type 0 where
  pub before : ReadTo whole index
  pub parts : (kind : ℕ) → IsSetKind kind
      → MatchOption (part_of kind set) ((k : ℕ) → k < index → kind_at whole k ≢ kind) (λ tree. (k : ℕ) × (k < index) × (kind_at whole k ≡ kind) × (decoded (part_at whole k) ≡ Ok tree))

-- a draft that has the parts of the types below a number
pub record IsDraftTo (s : TreeSet) (kind : ℕ) (draft : Draft) : Type 0 where
  pub magic : draft.magic ≡ set_magic
  pub parts : draft.parts ≡ parts_below kind s
  pub small : total_of draft.parts ≤ 12 + kind * (MOST_BYTES + 8)
  pub spelled : (k : ℕ) → k < kind → IfSome (part_of k s) (λ tree. IsSpelling tree (plain_blob tree))

-- a part is too long
pub record HasLongPart (s : TreeSet) (kind : ℕ) : Type 0 where
  pub tree : Tree
  pub part : part_of kind s ≡ Some tree
  pub long : MOST_BYTES < length (plain_blob tree)
