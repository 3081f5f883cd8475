use Rattle.std.proofs.Common.{sym, subst}
use Rattle.std.specs.Prelude.{All}
use Rattle.raw_tables.specs.Raw.{plain_rules}
use Rattle.memory_keeper.specs.Changes.{CanBeDisabled}
use Rattle.memory_keeper.proofs.changes.change_in_place.Goals as goal

pub change_each-requires-clause-counted : goal.change_each-requires-clause-counted
change_each-requires-clause-counted c = subst (λ rules. ∥ All CanBeDisabled (plain_rules rules) ∥₁) (sym c.deref_mut.ensures.value) c.requires.counted
