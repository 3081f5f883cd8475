use Rattle.std.proofs.Common.{◌≡◌, ◌<◌, ◌≤◌, length, ◌∙◌, ap, arith}
use Rattle.std.specs.Prelude.{◌++◌, take, drop, if◌then◌else◌}
use Rattle.std.proofs.lemmas.List.{length-map}
use Rattle.store_model.specs.Change.{raw_selects, raw_change}
use Rattle.rule_values.specs.Selector.{selector_of}
use Rattle.raw_tables.specs.Raw.{plain_rule, plain_rules}
use Rattle.memory_keeper.specs.Changes.{raw_changed_by}
use Rattle.memory_keeper.proofs.Changed.{change_more, still_counted}
use Rattle.memory_keeper.proofs.Spanned.{change_begins, change_ends}
use Rattle.memory_keeper.proofs.changes.change_each.Goals as goal

pub loop-i-init : goal.loop-i-init
loop-i-init c = change_begins (selector_of c.args.selector.now) (raw_changed_by c.args.change.now) (plain_rules c.args.rules.now) c.args.span c.requires.span

pub change_selected-requires : goal.change_selected-requires
change_selected-requires c =
    let old : c.loop-i.i < length (plain_rules c.args.rules.now) = omega (arith, c.loop-i-test.true, c.requires.span.within) in
    let in' : c.loop-i.i < length c.loop-i.rules = omega (arith, old, c.loop-i.auto.rules, length-map c.args.rules.now plain_rule) in
    still_counted (λ r. if raw_selects (selector_of c.args.selector.now) r then raw_changed_by c.args.change.now r else r)
    (plain_rules c.args.rules.now) c.loop-i.rules c.loop-i.i c.index-rules-i.result old in' c.loop-i.invariant c.requires.counted

pub loop-i-preserved : goal.loop-i-preserved
loop-i-preserved c =
    let old : c.loop-i.i < length (plain_rules c.args.rules.now) = omega (arith, c.loop-i-test.true, c.requires.span.within) in
    let in' : c.loop-i.i < length c.loop-i.rules = omega (arith, old, c.loop-i.auto.rules, length-map c.args.rules.now plain_rule) in
    change_more (λ r. if raw_selects (selector_of c.args.selector.now) r then raw_changed_by c.args.change.now r else r)
    (plain_rules c.args.rules.now) c.loop-i.rules c.loop-i.i c.index-rules-i.result c.change_selected.new.self in' old c.loop-i.invariant c.change_selected.ensures

pub returns : goal.returns
returns c =
    let end : c.loop-i.i ≤ c.args.span.to = c.loop-i.auto.i-end c.requires.span.ordered in
    let all : c.loop-i.i ≡ c.args.span.to = omega (arith, end, c.loop-i-test.false) in
    c.loop-i.invariant
    ∙ (ap (λ k. raw_change (selector_of c.args.selector.now) (raw_changed_by c.args.change.now) (take k (plain_rules c.args.rules.now)) ++ drop k (plain_rules c.args.rules.now)) all
    ∙ change_ends (selector_of c.args.selector.now) (raw_changed_by c.args.change.now) (plain_rules c.args.rules.now) c.args.span c.requires.span)
