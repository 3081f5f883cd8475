-- What a search of the rules has come to.
use Rattle.std.specs.Prelude.{List, ℕ}
use Rattle.req_tree.specs.Subject.{Subject}
use Rattle.req_tree.specs.Facts.{Facts}
use Rattle.policy_model.specs.Rules.{Row, Kind, Governs, IsLatent}
use Rattle.authority_table.specs.declared.first_rules.FirstRules.{FirstRules}
use Rattle.authority_table.specs.Found.{row_found}

-- the rule that governs among the rows that were looked at, and the latent one
pub record AreFirst (rows : List Row) (kind : Kind) (subject : Subject) (facts : Facts) (m : ℕ) (f : FirstRules) : Type 0 where
  pub governing : Governs rows kind subject facts m (row_found f.governing)
  pub latent : IsLatent rows kind subject facts m (row_found f.latent)
