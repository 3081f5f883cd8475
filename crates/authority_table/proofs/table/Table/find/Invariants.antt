use Rattle.std.specs.Prelude.{◌≡◌, take}
use Rattle.req_tree.specs.Facts as f
use Rattle.req_tree.specs.Facts.{known_of}
use Rattle.req_tree.specs.Subject.{subject_of}
use Rattle.fact_values.specs.Knowledge.{known_in}
use Rattle.rule_values.specs.Kind.{kind_of}
use Rattle.rule_values.specs.Rule.{rows_of}
use Rattle.authority_table.specs.FirstRules.{AreFirst}
use Rattle.authority_table.proofs.table.Table.find.Given as goal

abbrev pub invariant-loop-rule : goal.invariant-loop-rule
invariant-loop-rule l =
    (all : f.Facts) → known_of all (subject_of l.subject).cdhash ≡ known_in l.facts
    → AreFirst (rows_of (take l.rule-index l.rule-items)) (kind_of l.kind) (subject_of l.subject) all l.at l.first
