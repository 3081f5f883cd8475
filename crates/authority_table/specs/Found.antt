-- What a search of the rules found.
use Rattle.std.specs.Prelude.{◌≡◌, List, ℕ, Option, Some, None, option_map}
use Rattle.std.specs.Option.{option_copied}
use Rattle.std.specs.Borrow.{Bor}
use Rattle.req_tree.specs.Subject.{Subject}
use Rattle.req_tree.specs.Facts.{Facts}
use Rattle.policy_model.specs.Rules.{Row, Kind, Governs, IsLatent}
use Rattle.policy_model.specs.Outcomes.{governed_until, default_until}
use Rattle.authority_table.specs.declared.found.Found.{Found}
use Rattle.authority_table.specs.declared.found.Found.TheVariants.{Governed, Default}
use Rattle.rule_values.specs.declared.rule.Rule.{Rule}
use Rattle.rule_values.specs.Rule.{row_of}

-- the row of a rule that was found
abbrev pub row_found : Option (Bor Rule) → Option Row
row_found f = option_map row_of (option_copied f)

-- the row of the enabled rule that was found
abbrev pub governing_row : Found → Option Row
governing_row (Governed rule until latent) = Some (row_of rule.now)
governing_row (Default latent until) = None

-- the row of the disabled rule that was found
abbrev pub latent_row : Found → Option Row
latent_row (Governed rule until latent) = row_found latent
latent_row (Default latent until) = row_found latent

-- its end is the one that the definitions give for these rows
abbrev pub StandsUntil : List Row → Kind → ℕ → Found → Type 0
StandsUntil rows kind m (Governed rule until latent) = until ≡ governed_until rows kind m (row_of rule.now)
StandsUntil rows kind m (Default latent until) = until ≡ default_until rows kind m (row_found latent)

-- the rule that governs among the rows, the latent one, and until when what they decide stands
pub record IsFound (rows : List Row) (kind : Kind) (subject : Subject) (facts : Facts) (m : ℕ) (f : Found) : Type 0 where
  pub governing : Governs rows kind subject facts m (governing_row f)
  pub latent : IsLatent rows kind subject facts m (latent_row f)
  pub until : StandsUntil rows kind m f
