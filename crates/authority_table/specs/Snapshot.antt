-- The rules of a kind in the order in which they are tried.
use Rattle.std.specs.Prelude.{List, [], ◌∷◌}
use Rattle.std.specs.List.{filter, AllByRecursion}
use Rattle.std.specs.List.Sorted.{IsPermutation}
use Rattle.policy_model.specs.Rules.{Row, Kind, same_kind, rank_of, Before}

-- the rows of a kind, in their order
abbrev pub of_kind : Kind → List Row → List Row
of_kind kind rows = filter (λ r. same_kind r.kind kind) rows

-- no row is tried before one that stands in front of it
abbrev pub IsByRank : List Row → Type 0
IsByRank [] = Unit {0}
IsByRank (r ∷ rest) = AllByRecursion (λ s. Before (rank_of s) (rank_of r) → ⊥) rest × IsByRank rest

-- all rows of the kind and no others, the one that is tried first in front
pub record IsSnapshot (rows : List Row) (kind : Kind) (snapshot : List Row) : Type 0 where
  pub same : IsPermutation (of_kind kind rows) snapshot
  pub ranked : IsByRank snapshot
