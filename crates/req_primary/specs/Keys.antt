-- What becomes of a tree in which each certificate's test has its key as it stands: the tree that is meant, with its depth;
-- or that one would be too deep; or a key stands for no test. This project's own.
use Rattle.std.specs.Prelude.{ℕ, ◌≡◌, ◌≤◌, ◌<◌, ◌+◌, zero, suc, max, nat_lt, if◌then◌else◌, Bool, true, false, List, ◌++◌, codes}
use Rattle.req_tree.specs.declared.limits.TheConstants.{MOST_DEPTH}
use Rattle.req_tree.specs.Tree as t
use Rattle.req_tree.specs.Tree.{Tree, tree_of}
use Rattle.req_tree.specs.Depth.{depth_of}
use Rattle.req_tree.specs.Oid.{IsOidText}
use Rattle.req_tree.specs.Spellable.{is_reserved}
use Rattle.req_grammar.specs.Readings.{CertTest}
use Rattle.req_grammar.specs.ReadingFaults.{IsBadKey, StandsForTest}
use Rattle.req_primary.specs.declared.meaning.Meaning.{Meaning}
use Rattle.req_primary.specs.declared.meaning.Meaning.TheVariants as m
use Rattle.req_primary.specs.declared.operand.Operand.{Operand}
use Rattle.req_primary.specs.declared.operand.Operand.TheVariants as o
use Rattle.req_primary.specs.declared.built.Built.{Built}
use Rattle.req_primary.specs.declared.built.Built.TheVariants as b
use Rattle.req_primary.specs.declared.built.Pair.{Pair}
use Rattle.req_primary.specs.declared.built.Pair.TheVariants as p

-- the tree that a tree with plain keys stands for; a tree that no text says stands for none
abbrev pub StandsFor : Tree → Tree → Type 0
StandsFor (t.both left right) x = (a b : Tree) × StandsFor left a × StandsFor right b × (x ≡ t.both a b)
StandsFor (t.either left right) x = (a b : Tree) × StandsFor left a × StandsFor right b × (x ≡ t.either a b)
StandsFor (t.negate inner) x = (a : Tree) × StandsFor inner a × (x ≡ t.negate a)
StandsFor (t.cert_field slot key test) x = CertTest slot key test x
StandsFor (t.skip_next op skipped inner) x = ⊥
StandsFor plain x = x ≡ plain

-- a tree and its depth, unless it is too deep or has a bad key
pub data Outcome : Type 0 where
  fine : Tree → ℕ → Outcome
  deep : Outcome
  bad_key : Outcome

-- the outcome is that of the tree with plain keys
abbrev pub Tells : Tree → Outcome → Type 0
Tells plain (fine x depth) = StandsFor plain x × (depth ≡ depth_of x) × (depth ≤ MOST_DEPTH)
Tells plain deep = (x : Tree) × StandsFor plain x × (MOST_DEPTH < depth_of x)
Tells plain bad_key = (x : Tree) → StandsFor plain x → ⊥

-- an operand as a tree, its key taken as a field's
abbrev pub operand_tree : Operand → Tree
operand_tree (o.Plain plain) = tree_of plain.req
operand_tree (o.CertKey slot key test) = t.cert_field slot key test

-- what the program has built
abbrev pub outcome_of : Built → Outcome
outcome_of (b.Fine tree depth) = fine (tree_of tree.value) depth
outcome_of b.Deep = deep
outcome_of b.BadKey = bad_key

-- a tree of this depth, unless that is too deep
abbrev pub limited : Tree → ℕ → Outcome
limited x depth = if nat_lt MOST_DEPTH depth then deep else fine x depth

-- what a pair of requirements becomes
abbrev pub pair_outcome : (Tree → Tree → Tree) → Pair → Outcome
pair_outcome make (p.Fine left right depth) = fine (make (tree_of left.value) (tree_of right.value)) depth
pair_outcome make p.Deep = deep
pair_outcome make p.BadKey = bad_key

-- two trees made one
abbrev pub joined : (Tree → Tree → Tree) → Outcome → Outcome → Outcome
joined make bad_key other = bad_key
joined make deep bad_key = bad_key
joined make deep other = deep
joined make (fine x n) bad_key = bad_key
joined make (fine x n) deep = deep
joined make (fine x n) (fine y m) = limited (make x y) (max n m + 1)

-- an outcome negated, one deeper
abbrev pub negated : Outcome → Outcome
negated (fine x n) = limited (t.negate x) (n + 1)
negated deep = deep
negated bad_key = bad_key

-- so often negated
abbrev pub negated_times : ℕ → Outcome → Outcome
negated_times zero outcome = outcome
negated_times (suc n) outcome = negated_times n (negated outcome)

-- what the program makes of a key
abbrev pub Means : List ℕ → Meaning → Type 0
Means key m.Field = is_reserved key ≡ false
Means key (m.Extension oid) = (text : List ℕ) × (key ≡ codes "field." ++ text) × IsOidText oid text
Means key (m.Policy oid) = (text : List ℕ) × (key ≡ codes "policy." ++ text) × IsOidText oid text
Means key m.Nothing = IsBadKey key

-- what a test of a key says: true where it stands for no test, else false
abbrev pub KeyTold : Bool → List ℕ → Type 0
KeyTold true key = IsBadKey key
KeyTold false key = StandsForTest key
