use Rattle.std.proofs.Common.{◌<◌, ◌≤◌, length, ap, sym, ◌∙◌, arith}
use Rattle.std.specs.Prelude.{not}
use Rattle.std.proofs.lemmas.List.Filters.{FiltersInPlace-more_swap, FiltersInPlace-more_no, FiltersInPlace-all}
use Rattle.store_model.specs.Change.{raw_selects}
use Rattle.rule_values.specs.Selector.{selector_of}
use Rattle.raw_tables.specs.Raw.{plain_rules}
use Rattle.memory_keeper.proofs.Changed.{kept_rules}
use Rattle.memory_keeper.proofs.Removed.{kept_before, marks_swapped, marks_cut}
use Rattle.memory_keeper.proofs.changes.remove_each.Goals as goal
use Rattle.memory_keeper.proofs.changes.remove_each.Goals.{then-not-is_selected, else-not-is_selected}

pub loop-i-init : goal.loop-i-init
loop-i-init c = (kept_before (raw_selects (selector_of c.args.selector.now)) c.args.rules.now.items c.args.from c.requires.within c.requires.front, c.requires.marked)

pub loop-i-preserved : goal.loop-i-preserved
loop-i-preserved c =
    let h = c.loop-i.invariant in
    let lt : c.loop-i.i < length c.loop-i.rules.items = omega (arith, c.loop-i-test.true, c.len-i-end.ensures, h.0.long) in
    let lt' : c.loop-i.kept < length c.loop-i.rules.items = omega (arith, h.0.behind, lt) in
    elim c.if-not-is_selected.branch [
      | then-not-is_selected w ↦ rw (w.rules-is, w.marks-is, w.kept-is) (
        FiltersInPlace-more_swap h.0 lt (ap not (sym c.is_selected.ensures ∙ w.if-not-is_selected.true)) c.index.ensures w.swap.ensures.by_index,
        marks_swapped c.loop-i.rules.items _ c.loop-i.marks.items _ c.loop-i.kept c.loop-i.i c.index.result.now lt' lt h.1 w.swap.ensures.items w.swap-then-not-is_selected.ensures.items,
      )
      | else-not-is_selected w ↦ rw (w.rules-is, w.marks-is, w.kept-is)
          (FiltersInPlace-more_no h.0 lt (ap not (sym c.is_selected.ensures ∙ w.if-not-is_selected.false)) c.index.ensures, h.1)
    ]

pub returns : goal.returns
returns c =
    let h = c.loop-i.invariant in
    let all : length c.args.rules.now.items ≤ c.loop-i.i = omega (arith, c.loop-i-test.false, c.len-i-end.ensures) in
    record {
      rules = ap plain_rules (c.truncate.ensures.items ∙ FiltersInPlace-all h.0 all) ∙ kept_rules (λ r. not (raw_selects (selector_of c.args.selector.now) r)) c.args.rules.now.items;
      marked = marks_cut c.loop-i.rules.items c.truncate.new.self.items c.loop-i.marks.items c.truncate-2.new.self.items c.loop-i.kept h.1 c.truncate.ensures.items c.truncate-2.ensures.items;
    }
