-- The first byte of the only code that a rule is about, where its requirement is a cdhash.
use Rattle.std.specs.Prelude.{◌≡◌, ◌≢◌, ℕ, Option, Some, None, false, get_or}
use Rattle.req_tree.specs.Subject.{Subject}
use Rattle.req_tree.specs.Facts.{Known}
use Rattle.req_tree.specs.Meaning.{means}
use Rattle.policy_model.specs.Rules.{Row}

-- where there is such a byte, the row's requirement holds of no code whose cdhash begins with another
abbrev pub AsksFor : Option ℕ → Row → Type 0
AsksFor None r = Unit {0}
AsksFor (Some byte) r = (subject : Subject) (known : Known) → get_or subject.cdhash 0 0 ≢ byte → means r.tree subject known ≡ false
