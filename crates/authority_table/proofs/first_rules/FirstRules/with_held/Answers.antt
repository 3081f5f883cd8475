use Rattle.req_tree.specs.Facts.{known_of}
use Rattle.req_tree.specs.Subject.{subject_of}
use Rattle.rule_values.specs.Rule.{row_of}
use Rattle.authority_table.proofs.OneFurther.{found_beside}
use Rattle.authority_table.proofs.first_rules.FirstRules.with_held.Goals as goal

pub returns-else-may_hold : goal.returns-else-may_hold
returns-else-may_hold c = λ all known rows found.
    found_beside c.search_goes_on.ensures.passes _ _ all _ rows (row_of c.args.rule.now) _ (c.may_hold.ensures c.if-may_hold.false (known_of all (subject_of c.args.subject.now).cdhash)) found
