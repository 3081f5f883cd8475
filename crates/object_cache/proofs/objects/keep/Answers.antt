use Rattle.std.proofs.Common.{ap, ◌∙◌, ◌++◌, ◌∷◌, []}
use Rattle.std.specs.List.{filter}
use Rattle.std.proofs.lemmas.List.{map-append}
use Rattle.object_model.specs.Objects.{is_unexpired}
use Rattle.object_cache.specs.Entry.{entry_of, entries_of}
use Rattle.object_cache.proofs.KeptEntries.{kept_last}
use Rattle.object_cache.proofs.objects.keep.Goals as goal

pub returns-clause-live : goal.returns-clause-live
returns-clause-live c =
    let p = is_unexpired c.args.now in
    ap (λ xs. filter p (entries_of xs)) c.push_reserved.ensures.items
    ∙ ap (filter p) (map-append entry_of c.sweep.new.entries.items (c.args.entry ∷ []))
    ∙ ap (λ xs. filter p (xs ++ entry_of c.args.entry ∷ [])) c.sweep.ensures.entries
    ∙ kept_last p (entries_of c.args.entries.now.items) (entry_of c.args.entry) c.requires.lasts
