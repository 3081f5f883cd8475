use Rattle.std.proofs.Common.{take, map, ap, sym, ◌∙◌, not}
use Rattle.std.specs.List.{list_any}
use Rattle.policy_model.specs.Rules as rules
use Rattle.rule_values.specs.Rank.{rank_view}
use Rattle.object_cache.proofs.LateRanks.{passed}
use Rattle.object_cache.proofs.late_ranks.any_reached.Goals as goal

pub loop-first-preserved : goal.loop-first-preserved
loop-first-preserved c =
    sym (passed (λ f. not (rules.is_before (rank_view c.args.rank.now) f)) (rank_view c.in-Some.first.now) (map rank_view c.next.new.self) c.loop-first.left c.if-left-eq0.false (ap not (sym c.is_before.ensures ∙ c.if-not-is_before.false)))
    ∙ ap (λ xs. list_any (λ f. not (rules.is_before (rank_view c.args.rank.now) f)) (take c.loop-first.left (map rank_view xs))) (sym c.in-Some.ensures.steps)
    ∙ c.loop-first.invariant
