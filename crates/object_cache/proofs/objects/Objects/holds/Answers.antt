use Rattle.std.proofs.Common.{rules}
use Rattle.object_cache.proofs.KeptEntries.{any_found}
use Rattle.object_cache.proofs.objects.Objects.holds.Goals as goal

pub returns : goal.returns
returns c = search (rules, any_found)
