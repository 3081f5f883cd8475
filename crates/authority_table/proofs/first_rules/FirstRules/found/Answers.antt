use Rattle.std.proofs.Common.{subst, false}
use Rattle.policy_model.specs.Rules.{Meets, IsFirstOf}
use Rattle.authority_table.specs.Found.{row_found}
use Rattle.authority_table.proofs.first_rules.FirstRules.found.Goals as goal

pub returns-in-Some : goal.returns-in-Some
returns-in-Some c = λ rows kind subject all first. record {
  governing = subst (λ g. IsFirstOf (Meets false kind subject all c.args.at) rows (row_found g)) c.in-Some.is first.governing;
  latent = first.latent;
  until = c.governed_until.ensures rows kind c.args.at;
}

pub returns-in-None : goal.returns-in-None
returns-in-None c = λ rows kind subject all first. record {
  governing = subst (λ g. IsFirstOf (Meets false kind subject all c.args.at) rows (row_found g)) c.in-None.is first.governing;
  latent = first.latent;
  until = c.default_until.ensures rows kind;
}
