use Rattle.std.specs.Prelude.{◌≡◌, ◌+◌, ◌≤◌, length, drop}
use Rattle.std.specs.List.{filter}
use Rattle.object_model.specs.Objects.{is_unexpired}
use Rattle.object_cache.specs.Entry.{entries_of}
use Rattle.object_cache.proofs.objects.count_live.Given as goal

abbrev pub invariant-loop-entry : goal.invariant-loop-entry
invariant-loop-entry l =
    (l.count + length (filter (is_unexpired l.now) (entries_of (drop l.entry-index l.entries))) ≡ length (filter (is_unexpired l.now) (entries_of l.entries)))
    × (l.count ≤ l.entry-index)
