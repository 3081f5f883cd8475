-- The tests that a judgement makes of the rules of one kind.
use Rattle.std.specs.Prelude.{◌≡◌, ℕ, Bool, ◌&&◌, List}
use Rattle.std.specs.List.{AllByRecursion}
use Rattle.req_tree.specs.Subject.{Subject}
use Rattle.req_tree.specs.Facts.{Known}
use Rattle.req_tree.specs.Meaning.{means}
use Rattle.policy_model.specs.Rules.{Row, Kind, is_below, is_counted}

-- the rows are of this kind
abbrev pub AllOfKind : Kind → List Row → Type 0
AllOfKind kind rows = AllByRecursion (λ r. r.kind ≡ kind) rows

-- a row is live, is disabled or enabled as asked, and means true by what is known
abbrev pub holds : Bool → ℕ → Subject → Known → Row → Bool
holds disabled m subject known r = is_below m r.expires && is_counted disabled r.disabled && means r.tree subject known
