use Rattle.std.proofs.Common.{◌≡◌, ◌<◌, ◌≤◌, length, ◌∙◌, ap, arith}
use Rattle.std.specs.Prelude.{◌++◌, take, drop, if◌then◌else◌}
use Rattle.std.proofs.lemmas.List.{length-map}
use Rattle.policy_model.specs.Changes.{selects, change}
use Rattle.rule_values.specs.Rule.{row_of, rows_of}
use Rattle.rule_values.specs.Selector.{selector_of, content_by}
use Rattle.rule_values.specs.Changes.{changed_by}
use Rattle.held_rules.proofs.Changed.{change_more, still_none_full}
use Rattle.held_rules.proofs.Spanned.{change_begins, change_ends}
use Rattle.held_rules.proofs.changes.change_each.Goals as goal

pub loop-i-init : goal.loop-i-init
loop-i-init c = change_begins (selector_of c.args.selector.now) (changed_by c.args.change.now) (rows_of c.args.rules.now) c.args.span c.requires.span

pub change_selected-requires : goal.change_selected-requires
change_selected-requires c =
    let old : c.loop-i.i < length (rows_of c.args.rules.now) = omega (arith, c.loop-i-test.true, c.requires.span.within) in
    let in' : c.loop-i.i < length c.loop-i.rules = omega (arith, old, c.loop-i.auto.rules, length-map c.args.rules.now row_of) in
    still_none_full (content_by c.args.selector.now c.args.change.now) (λ r. if selects (selector_of c.args.selector.now) r then changed_by c.args.change.now r else r)
    (rows_of c.args.rules.now) c.loop-i.rules c.loop-i.i c.index-rules-i.result old in' c.loop-i.invariant c.requires.counts

pub loop-i-preserved : goal.loop-i-preserved
loop-i-preserved c =
    let old : c.loop-i.i < length (rows_of c.args.rules.now) = omega (arith, c.loop-i-test.true, c.requires.span.within) in
    let in' : c.loop-i.i < length c.loop-i.rules = omega (arith, old, c.loop-i.auto.rules, length-map c.args.rules.now row_of) in
    change_more (λ r. if selects (selector_of c.args.selector.now) r then changed_by c.args.change.now r else r)
    (rows_of c.args.rules.now) c.loop-i.rules c.loop-i.i c.index-rules-i.result c.change_selected.new.rule in' old c.loop-i.invariant c.change_selected.ensures

pub returns : goal.returns
returns c =
    let end : c.loop-i.i ≤ c.args.span.to = c.loop-i.auto.i-end c.requires.span.ordered in
    let all : c.loop-i.i ≡ c.args.span.to = omega (arith, end, c.loop-i-test.false) in
    c.loop-i.invariant
    ∙ (ap (λ k. change (selects (selector_of c.args.selector.now)) (changed_by c.args.change.now) (take k (rows_of c.args.rules.now)) ++ drop k (rows_of c.args.rules.now)) all
    ∙ change_ends (selector_of c.args.selector.now) (changed_by c.args.change.now) (rows_of c.args.rules.now) c.args.span c.requires.span)
