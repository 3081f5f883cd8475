use Rattle.std.proofs.Common.{◌≡◌, sym, subst}
use Rattle.std.specs.Prelude.{option_map}
use Rattle.rule_values.specs.Kind.{kind_of}
use Rattle.rule_values.specs.Rank.{rank_view}
use Rattle.desk_state.specs.Cache.{cache_in, purged_at}
use Rattle.desk_state.proofs.Purged.{live_purged}
use Rattle.desk_state.proofs.purging.purge_kind.Goals as goal

pub returns-in-Some-clause-cache : goal.returns-in-Some-clause-cache
returns-in-Some-clause-cache c = λ m.
    subst (λ o. cache_in m c.purge.new.self ≡ purged_at (kind_of c.args.kind) (option_map rank_view o) (cache_in m c.args.objects.now)) (sym c.in-Some.is)
    (live_purged m (kind_of c.args.kind) (rank_view c.in-Some.first) c.args.objects.now c.purge.new.self c.purge.ensures.entries c.purge.ensures.counts c.purge.ensures.rings)
