use Rattle.std.proofs.Common.{◌≡◌, ◌<◌, ◌≤◌, length, take, length-take-le, refl, sym, ap, ◌∙◌, arith}
use Rattle.std.specs.Prelude.{not}
use Rattle.std.proofs.lemmas.List.Filters.{FiltersInPlace-more_swap, FiltersInPlace-more_no, FiltersInPlace-all}
use Rattle.policy_model.specs.Changes.{selects}
use Rattle.rule_values.specs.Rule.{rows_of}
use Rattle.rule_values.specs.Selector.{selector_of}
use Rattle.held_rules.proofs.Changed.{kept_rows}
use Rattle.held_rules.proofs.Removed.{kept_before, marks_swapped, marks_cut}
use Rattle.held_rules.proofs.removal.remove_each.Goals as goal
use Rattle.held_rules.proofs.removal.remove_each.Goals.{then-not-is_selected, else-not-is_selected}

pub loop-i-init : goal.loop-i-init
loop-i-init c = (kept_before (selects (selector_of c.args.selector.now)) c.args.rules.now.items c.args.from c.requires.within c.requires.front, c.requires.marked, refl, refl)

pub loop-i-preserved : goal.loop-i-preserved
loop-i-preserved c =
    let h = c.loop-i.invariant in
    let lt : c.loop-i.i < length c.loop-i.rules.items = omega (arith, c.loop-i-test.true, c.len-i-end.ensures, h.0.long) in
    let lt' : c.loop-i.kept < length c.loop-i.rules.items = omega (arith, h.0.behind, lt) in
    elim c.if-not-is_selected.branch [
      | then-not-is_selected w ↦ rw (w.rules-is, w.marks-is, w.kept-is) (
        FiltersInPlace-more_swap h.0 lt (ap not (sym c.is_selected.ensures ∙ w.if-not-is_selected.true)) c.index.ensures w.swap.ensures.by_index,
        marks_swapped c.loop-i.rules.items _ c.loop-i.marks.items _ c.loop-i.kept c.loop-i.i c.index.result.now lt' lt h.1 w.swap.ensures.items w.swap-then-not-is_selected.ensures.items,
        w.swap.ensures.capacity ∙ h.2,
        w.swap-then-not-is_selected.ensures.capacity ∙ h.3,
      )
      | else-not-is_selected w ↦ rw (w.rules-is, w.marks-is, w.kept-is)
          (FiltersInPlace-more_no h.0 lt (ap not (sym c.is_selected.ensures ∙ w.if-not-is_selected.false)) c.index.ensures, h.1, h.2, h.3)
    ]

pub returns : goal.returns
returns c =
    let h = c.loop-i.invariant in
    let all : length c.args.rules.now.items ≤ c.loop-i.i = omega (arith, c.loop-i-test.false, c.len-i-end.ensures) in
    let few : length (take c.loop-i.kept c.loop-i.rules.items) ≡ c.loop-i.kept = length-take-le c.loop-i.kept c.loop-i.rules.items (omega (arith, h.0.behind, h.0.within, h.0.long)) in
    let short : length c.truncate.new.self.items ≡ c.loop-i.kept = ap length c.truncate.ensures.items ∙ few in
    record {
      rows = ap rows_of (c.truncate.ensures.items ∙ FiltersInPlace-all h.0 all) ∙ kept_rows (λ r. not (selects (selector_of c.args.selector.now) r)) c.args.rules.now.items;
      fewer = omega (arith, short, h.0.behind, h.0.within);
      held = c.truncate.ensures.capacity ∙ h.2;
      marked = marks_cut c.loop-i.rules.items c.truncate.new.self.items c.loop-i.marks.items c.truncate-2.new.self.items c.loop-i.kept h.1 c.truncate.ensures.items c.truncate-2.ensures.items;
      marks_held = c.truncate-2.ensures.capacity ∙ h.3;
    }
