-- The program's verdicts as those of the definitions.
use Rattle.rule_values.specs.Label.{label_bytes}
use Rattle.policy_model.specs.Outcomes.{Verdict}
use Rattle.policy_model.specs.ReplyTexts.{Origin, rules, cache, unsigned}
use Rattle.desk_state.specs.declared.verdict.Verdict as code
use Rattle.desk_state.specs.declared.verdict.Origin as code_origin
use Rattle.desk_state.specs.declared.verdict.Origin.TheVariants.{Rules, Cache, Unsigned}

-- the verdict without its origin
abbrev pub verdict_of : code.Verdict → Verdict
verdict_of v = record { allow = v.allow; at = v.at; rule = v.rule; latent = v.latent; label = label_bytes v.label; overridden = v.overridden }

-- where the verdict comes from
abbrev pub origin_of : code_origin.Origin → Origin
origin_of Rules = rules
origin_of Cache = cache
origin_of Unsigned = unsigned
