use Rattle.std.specs.Prelude.{◌≡◌, take, map, not}
use Rattle.std.specs.List.{list_any}
use Rattle.policy_model.specs.Rules.{is_before}
use Rattle.rule_values.specs.Rank.{rank_view}
use Rattle.object_cache.proofs.late_ranks.any_reached.Given as goal

abbrev pub invariant-loop-first : goal.invariant-loop-first
invariant-loop-first l =
    list_any (λ f. not (is_before (rank_view l.rank) f)) (take l.left (map rank_view l.first-iterator))
    ≡ list_any (λ f. not (is_before (rank_view l.rank) f)) (take l.since (map rank_view l.ranks.items))
