-- The first ranks of some rows.
use Rattle.std.specs.Prelude.{◌≡◌, List, Option, option_map}
use Rattle.policy_model.specs.Rules.{Row, Rank, Kind, execute, install, document, same_kind, rank_of, first}
use Rattle.authority_table.specs.declared.touched.Touched.{Touched}
use Rattle.rule_values.specs.Rank.{rank_view}

-- the rank that is noted for a kind
abbrev pub touched_in : Touched → Kind → Option Rank
touched_in t execute = option_map rank_view t.execute
touched_in t install = option_map rank_view t.install
touched_in t document = option_map rank_view t.document

-- for each kind the rank of that of the rows which is tried first, or none where no row is of the kind
abbrev pub IsTouched : List Row → Touched → Type 0
IsTouched rows t = (kind : Kind) → touched_in t kind ≡ option_map rank_of (first (λ r. same_kind r.kind kind) rows)
