use Rattle.std.proofs.Common.{rules}
use Rattle.std.proofs.lemmas.Fn.{filter_same}
use Rattle.object_cache.specs.Entry.{entry_of}
use Rattle.object_model.specs.Objects.{is_unexpired}
use Rattle.object_cache.proofs.KeptEntries.{kept_by}
use Rattle.object_cache.proofs.objects.sweep.Goals as goal

pub returns-clause-entries : goal.returns-clause-entries
returns-clause-entries c = kept_by (is_unexpired c.args.now) _ _ (filter_same _ (λ x. is_unexpired c.args.now (entry_of x)) _ (λ x b f' k. search rules) _ _ c.retain.ensures.filtered)
