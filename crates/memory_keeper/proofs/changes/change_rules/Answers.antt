use Rattle.std.proofs.Common.{sym, subst}
use Rattle.raw_tables.specs.Raw.{plain_rules}
use Rattle.memory_keeper.specs.Spans.{AreRising}
use Rattle.memory_keeper.proofs.Marked.{marks_kept}
use Rattle.memory_keeper.proofs.changes.change_rules.Goals as goal

pub span_of-span-requires-clause-rising : goal.span_of-span-requires-clause-rising
span_of-span-requires-clause-rising c = subst (λ rules. ∥ AreRising (plain_rules rules) ∥₁) (sym c.deref.ensures.value) c.requires.rising

pub returns-in_default-clause-marked : goal.returns-in_default-clause-marked
returns-in_default-clause-marked c =
    marks_kept c.args.selector.now c.args.change.now (plain_rules c.args.rules.now.items) _ c.args.marks.now.items c.in_default.not-Remove c.requires.marked c.change_in_place.ensures
