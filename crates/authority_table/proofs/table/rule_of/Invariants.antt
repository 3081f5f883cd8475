use Rattle.std.specs.Prelude.{◌≡◌, ◌==◌, drop}
use Rattle.std.specs.List.{find}
use Rattle.rule_values.specs.Rule.{rows_of}
use Rattle.authority_table.proofs.table.rule_of.Given as goal

abbrev pub invariant-loop-rule : goal.invariant-loop-rule
invariant-loop-rule l = find (λ r. r.id == l.id) (rows_of (drop l.rule-index l.rules)) ≡ find (λ r. r.id == l.id) (rows_of l.rules)
