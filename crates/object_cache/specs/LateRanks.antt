-- The program's rings as those of the definitions.
use Rattle.std.specs.Prelude.{List, map}
use Rattle.policy_model.specs.Rules.{Rank}
use Rattle.rule_values.specs.Rank.{rank_view}
use Rattle.object_model.specs.Plain.{Rings}
use Rattle.object_cache.specs.declared.late_ranks.LateRanks.{LateRanks}
use Rattle.object_cache.specs.declared.late_ranks.Rings as code

-- the first ranks, from the newest back
abbrev pub late_of : LateRanks → List Rank
late_of late = map rank_view late.ranks.items

-- those of each kind
abbrev pub rings_view : code.Rings → Rings
rings_view r = record { execute = late_of r.execute; install = late_of r.install; document = late_of r.document }
