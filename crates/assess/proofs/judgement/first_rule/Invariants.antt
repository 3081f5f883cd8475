use Rattle.std.proofs.Common.{◌≡◌, drop}
use Rattle.std.specs.List.{find}
use Rattle.req_tree.specs.Subject.{subject_of}
use Rattle.fact_values.specs.Knowledge.{known_in}
use Rattle.rule_values.specs.Rule.{rows_of}
use Rattle.assess.specs.Tests.{holds}
use Rattle.assess.proofs.judgement.first_rule.Given as goal

abbrev pub invariant-loop-rule : goal.invariant-loop-rule
invariant-loop-rule l =
    find (holds l.disabled l.at (subject_of l.subject) (known_in l.facts)) (rows_of (drop l.rule-index l.rules)) ≡ find (holds l.disabled l.at (subject_of l.subject) (known_in l.facts)) (rows_of l.rules)
