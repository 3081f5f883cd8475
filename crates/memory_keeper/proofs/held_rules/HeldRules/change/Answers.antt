use Rattle.std.proofs.Common.{sym, subst}
use Rattle.std.specs.Prelude.{All}
use Rattle.raw_tables.specs.Raw.{plain_rules}
use Rattle.memory_keeper.specs.Changes.{CanBeDisabled}
use Rattle.memory_keeper.specs.Spans.{AreRising}
use Rattle.memory_keeper.proofs.held_rules.HeldRules.change.Goals as goal

pub change_rules-requires-clause-counted : goal.change_rules-requires-clause-counted
change_rules-requires-clause-counted c = subst (λ rules. ∥ All CanBeDisabled (plain_rules rules) ∥₁) (sym c.self.view_is) c.requires.counted

pub change_rules-requires-clause-rising : goal.change_rules-requires-clause-rising
change_rules-requires-clause-rising c = subst (λ rules. ∥ AreRising (plain_rules rules) ∥₁) (sym c.self.view_is) c.requires.rising
