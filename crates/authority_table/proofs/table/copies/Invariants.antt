use Rattle.std.proofs.Common.{◌≡◌, ◌++◌, drop}
use Rattle.rule_values.specs.Kind.{kind_of}
use Rattle.rule_values.specs.Rule.{rows_of}
use Rattle.authority_table.specs.Snapshot.{of_kind}
use Rattle.authority_table.proofs.table.copies.Given as goal

abbrev pub invariant-loop-rule : goal.invariant-loop-rule
invariant-loop-rule l = rows_of l.copies ++ of_kind (kind_of l.kind) (rows_of (drop l.rule-index l.rules)) ≡ of_kind (kind_of l.kind) (rows_of l.rules)
