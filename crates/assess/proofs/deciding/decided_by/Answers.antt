use Rattle.std.proofs.Common.{sym, ap, ◌∙◌, subst}
use Rattle.policy_model.specs.Outcomes.{outcome_by}
use Rattle.authority_table.specs.Found.{governing_row, latent_row, StandsUntil}
use Rattle.assess.proofs.deciding.decided_by.Goals as goal

pub returns-in-Governed : goal.returns-in-Governed
returns-in-Governed c = λ rows kind m stands.
    c.governed.ensures rows kind m (latent_row c.args.found.now) (subst (StandsUntil rows kind m) c.in-Governed.is stands)
    ∙ ap (λ f. outcome_by rows kind m (governing_row f) (latent_row c.args.found.now)) (sym c.in-Governed.is)

pub returns-in-Default : goal.returns-in-Default
returns-in-Default c = λ rows kind m stands.
    c.default_denial.ensures rows kind m (subst (StandsUntil rows kind m) c.in-Default.is stands)
    ∙ ap (λ f. outcome_by rows kind m (governing_row f) (latent_row f)) (sym c.in-Default.is)
