-- The program's outcomes as those of the definitions.
use Rattle.rule_values.specs.declared.outcome.Outcome as code
use Rattle.rule_values.specs.declared.outcome.Outcome.TheVariants.{Governed, Default}
use Rattle.policy_model.specs.Outcomes.{Outcome, governed, default}
use Rattle.rule_values.specs.Label.{label_bytes}
use Rattle.rule_values.specs.Rank.{rank_view}

-- governed by a rule, or by none
abbrev pub outcome_of : code.Outcome → Outcome
outcome_of (Governed rank allow label until inhibit) = governed (rank_view rank) allow (label_bytes label) inhibit until
outcome_of (Default latent label until) = default latent (label_bytes label) until
