-- The program's ranks as those of the definitions.
use Rattle.rule_values.specs.declared.rank.Rank as code
use Rattle.std.specs.Ordering.{ordering_then, nat_cmp, int_cmp}
use Rattle.std.specs.declared.cmp.Ordering.{Ordering}
use Rattle.policy_model.specs.Rules.{Rank}

-- priority in millionths, and number
abbrev pub rank_view : code.Rank → Rank
rank_view r = record { priority = r.priority; id = r.id }

-- the higher priority, and then the lesser id, comes first
abbrev pub rank_cmp : Rank → Rank → Ordering
rank_cmp a b = ordering_then (int_cmp b.priority a.priority) (nat_cmp a.id b.id)
