use Rattle.std.proofs.Common.{ap, ◌∙◌, List}
use Rattle.std.specs.Arc.{arc_value}
use Rattle.rule_values.specs.declared.rule.Rule.{Rule}
use Rattle.rule_values.specs.Kind.{kind_of}
use Rattle.rule_values.specs.Rule.{rows_of}
use Rattle.authority_table.specs.Snapshot.{of_kind}
use Rattle.authority_table.proofs.Copied.{snapshot_of}
use Rattle.authority_table.proofs.table.Table.snapshot.Goals as goal

pub returns : goal.returns
returns c =
    snapshot_of c.args.self.now c.in_ok-rules.rules c.sort_by_rank.new.self (arc_value c.in_ok-rules-2.rules) (kind_of c.args.kind)
    (c.in_ok-rules.ensures ∙ ap (λ (l : List Rule). of_kind (kind_of c.args.kind) (rows_of l)) (c.deref.ensures.value ∙ c.self.view_is))
    c.in_ok-sort_by_rank.ensures.same c.in_ok-sort_by_rank.ensures.ranked c.in_ok-rules-2.ensures.ok
