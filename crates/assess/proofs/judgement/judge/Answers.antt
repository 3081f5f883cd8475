use Rattle.req_tree.specs.Subject.{subject_of}
use Rattle.fact_values.specs.Knowledge.{known_in}
use Rattle.rule_values.specs.Kind.{kind_of}
use Rattle.rule_values.specs.Rule.{row_of, rows_of}
use Rattle.authority_table.specs.Found.{row_found}
use Rattle.rule_values.specs.Outcome.{outcome_of}
use Rattle.assess.proofs.Judged.{judged_governed, judged_default}
use Rattle.assess.proofs.judgement.judge.Goals as goal

pub returns-in-Some : goal.returns-in-Some
returns-in-Some c = λ all same. judged_governed (rows_of c.args.rules.now) (kind_of c.args.kind) (subject_of c.args.subject.now) all (known_in c.args.facts) c.args.at c.requires.kind c.requires.ranked same
    (row_of c.in-Some.rule.now) (outcome_of c.governed.result) c.in-Some.ensures
    (λ latent. c.governed.ensures (rows_of c.args.rules.now) (kind_of c.args.kind) c.args.at latent (c.governed_until.ensures (rows_of c.args.rules.now) (kind_of c.args.kind) c.args.at))

pub returns-in-None : goal.returns-in-None
returns-in-None c = λ all same. judged_default (rows_of c.args.rules.now) (kind_of c.args.kind) (subject_of c.args.subject.now) all (known_in c.args.facts) c.args.at c.requires.kind c.requires.ranked same
    (row_found c.first_rule-latent.result) (outcome_of c.default_denial.result) c.in-None.ensures c.first_rule-latent.ensures
    (c.default_denial.ensures (rows_of c.args.rules.now) (kind_of c.args.kind) c.args.at (c.default_until.ensures (rows_of c.args.rules.now) (kind_of c.args.kind)))
