use Rattle.std.specs.Prelude.{◌≡◌, drop}
use Rattle.std.specs.List.{filter, find}
use Rattle.req_tree.specs.Subject.{subject_of}
use Rattle.rule_values.specs.Kind.{kind_of}
use Rattle.object_model.specs.Objects.{is_unexpired, is_for}
use Rattle.object_cache.specs.Entry.{entries_of}
use Rattle.object_cache.proofs.objects.first_live.Given as goal

abbrev pub invariant-loop-entry : goal.invariant-loop-entry
invariant-loop-entry l =
    find (is_for (kind_of l.kind) (subject_of l.subject)) (filter (is_unexpired l.now) (entries_of (drop l.entry-index l.entries)))
    ≡ find (is_for (kind_of l.kind) (subject_of l.subject)) (filter (is_unexpired l.now) (entries_of l.entries))
