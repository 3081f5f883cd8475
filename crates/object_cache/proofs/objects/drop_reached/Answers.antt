use Rattle.std.proofs.Common.{rules}
use Rattle.std.proofs.lemmas.Fn.{filter_same}
use Rattle.object_cache.specs.Entry.{entry_of}
use Rattle.object_model.specs.Purges.{stays_at}
use Rattle.rule_values.specs.Kind.{kind_of}
use Rattle.rule_values.specs.Rank.{rank_view}
use Rattle.object_cache.proofs.KeptEntries.{kept_by}
use Rattle.object_cache.proofs.objects.drop_reached.Goals as goal

pub returns-clause-entries : goal.returns-clause-entries
returns-clause-entries c = kept_by (stays_at (kind_of c.args.kind) (rank_view c.args.first.now)) _ _ (filter_same _ (λ x. stays_at (kind_of c.args.kind) (rank_view c.args.first.now) (entry_of x)) _ (λ x b f' k. search rules) _ _ c.retain.ensures.filtered)
