-- That rows are of one kind and in their order holds in one way at most, so that a type may keep it.
use Rattle.std.specs.Prelude.{◌≡◌, List, [], ◌∷◌}
use Rattle.std.specs.List.{AllByRecursion-prop}
use Rattle.std.specs.Coded.{Coded, Coded-set, codes}
use Rattle.policy_model.specs.Rules.{Row, Kind, rank_of, Before}
use Rattle.authority_table.specs.Snapshot.{IsByRank}
use Rattle.assess.specs.Tests.{AllOfKind}

-- kinds are plain data
kind_code : Coded Kind
kind_code = Prim.hlevel codes

-- rows are of a kind in one way
pub of_kind_once : (kind : Kind) (rows : List Row) → IsProp (AllOfKind kind rows)
of_kind_once kind rows = AllByRecursion-prop (λ r. r.kind ≡ kind) (λ r. hlevel (Coded-set kind_code)) rows

-- and in the order in which they are tried
pub ranked_once : (rows : List Row) → IsProp (IsByRank rows)
ranked_once [] = hlevel
ranked_once (r ∷ rest) = hlevel (AllByRecursion-prop (λ s. Before (rank_of s) (rank_of r) → ⊥) (λ s. hlevel) rest, ranked_once rest)
