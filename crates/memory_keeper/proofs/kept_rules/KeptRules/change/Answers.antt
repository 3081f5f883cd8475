use Rattle.std.proofs.Common.{sym, ap, ◌∙◌, subst}
use Rattle.std.specs.Prelude.{All}
use Rattle.raw_tables.specs.Raw.{plain_rules}
use Rattle.memory_keeper.specs.Changes.{CanBeDisabled}
use Rattle.memory_keeper.specs.Spans.{AreRising}
use Rattle.memory_keeper.specs.Kept.{rules_in}
use Rattle.memory_keeper.proofs.kept_rules.KeptRules.change.Goals as goal

pub change-requires-clause-counted : goal.change-requires-clause-counted
change-requires-clause-counted c = subst (λ rules. ∥ All CanBeDisabled (plain_rules rules) ∥₁) (ap rules_in c.in-Given.is ∙ sym (c.in_ok-held-in-Given.ensures ∙ c.as_slice.ensures)) c.requires.counted

pub change-requires-clause-rising : goal.change-requires-clause-rising
change-requires-clause-rising c = subst (λ rules. ∥ AreRising (plain_rules rules) ∥₁) (ap rules_in c.in-Given.is ∙ sym (c.in_ok-held-in-Given.ensures ∙ c.as_slice.ensures)) c.requires.rising

pub change-requires-in-Held-clause-counted : goal.change-requires-in-Held-clause-counted
change-requires-in-Held-clause-counted c = subst (λ rules. ∥ All CanBeDisabled (plain_rules rules) ∥₁) (ap rules_in c.in-Held.is) c.requires.counted

pub change-requires-in-Held-clause-rising : goal.change-requires-in-Held-clause-rising
change-requires-in-Held-clause-rising c = subst (λ rules. ∥ AreRising (plain_rules rules) ∥₁) (ap rules_in c.in-Held.is) c.requires.rising
