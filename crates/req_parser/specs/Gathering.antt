-- The set that parts make, the last part first.
use Rattle.std.specs.Prelude.{ℕ, ◌≡◌, List, [], ◌∷◌, Option, Some, None}
use Rattle.req_tree.specs.Tree.{Tree}
use Rattle.req_tree.specs.TreeSet.{TreeSet, IsSetKind, no_parts, part_of, with_part}
use Rattle.req_primary.specs.Keys.{Outcome, fine, outcome_of}
use Rattle.req_parser.specs.declared.parts.Part.{Part}

-- the tree that was built, where one was
abbrev pub tree_in : Outcome → Option Tree
tree_in (fine x depth) = Some x
tree_in other = None

-- a set with one part more, where there are both
abbrev pub with_one : ℕ → Option Tree → Option TreeSet → Option TreeSet
with_one kind (Some x) (Some set) = Some (with_part kind x set)
with_one kind x set = None

-- the set that parts make, where each was built
abbrev pub gathered : List Part → Option TreeSet
gathered [] = Some no_parts
gathered (part ∷ parts) = with_one part.kind (tree_in (outcome_of part.built)) (gathered parts)

-- the kind of a part is one that the set of the parts behind it doesn't have
pub record Fits (part : Part) (parts : List Part) : Type 0 where
  pub kind : IsSetKind part.kind
  pub free : (set : TreeSet) → gathered parts ≡ Some set → part_of part.kind set ≡ None

-- no kind stands twice in the parts
abbrev pub AllFit : List Part → Type 0
AllFit [] = Unit {0}
AllFit (part ∷ parts) = Fits part parts × AllFit parts
