use Rattle.std.proofs.Common.{arith, sym, ◌∙◌}
use Rattle.fact_values.proofs.NumericLemmas.{cut_before, cut_whole, whole_piece}
use Rattle.fact_values.proofs.numeric.cut_item.Goals as goal

pub returns-then-not-is_ascii_digit-2-clause-items : goal.returns-then-not-is_ascii_digit-2-clause-items
returns-then-not-is_ascii_digit-2-clause-items c =
    cut_before _ _ _ c.loop-at.at c.requires c.loop-at.invariant (sym c.is_ascii_digit.ensures.value ∙ c.if-not-is_ascii_digit.false)
    (sym c.is_ascii_digit-in-loop-at.ensures.value ∙ c.if-not-is_ascii_digit-2.true) c.split_at-then-not-is_ascii_digit-2.ensures.front c.split_at-then-not-is_ascii_digit-2.ensures.back

pub returns-clause-items : goal.returns-clause-items
returns-clause-items c = cut_whole _ _ _ c.loop-at.at c.requires (omega arith) c.loop-at.invariant c.split_at-2.ensures.front c.split_at-2.ensures.back

pub returns-clause-piece : goal.returns-clause-piece
returns-clause-piece c = whole_piece _ _ c.loop-at.at c.requires (omega arith) c.loop-at.invariant c.split_at-2.ensures.front
