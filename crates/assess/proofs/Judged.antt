-- A judgement by the first rules that hold is the outcome of the definition.
use Rattle.std.proofs.Common.{◌≡◌, ℕ, List, sym, ap, ◌∙◌, Option, Some, None}
use Rattle.std.specs.Prelude.{true, false}
use Rattle.std.specs.List.{find}
use Rattle.req_tree.specs.Subject.{Subject}
use Rattle.req_tree.specs.Facts.{Facts, Known, known_of}
use Rattle.policy_model.specs.Rules.{Row, Kind, meets, first}
use Rattle.policy_model.specs.Outcomes.{Outcome, outcome, outcome_by}
use Rattle.authority_table.specs.Snapshot.{IsByRank}
use Rattle.assess.specs.Tests.{holds, AllOfKind}
use Rattle.assess.proofs.FirstByRank.{first_held}

module _ (rows : List Row) (kind : Kind) (subject : Subject) (facts : Facts) (known : Known) (m : ℕ) (alike : AllOfKind kind rows) (ranked : IsByRank rows) (same : known_of facts subject.cdhash ≡ known) where
  pub judged_by : (g l : Option Row) → g ≡ find (holds false m subject known) rows → l ≡ find (holds true m subject known) rows → outcome_by rows kind m g l ≡ outcome rows kind subject facts m
  judged_by g l eg el =
      ap (λ x. outcome_by rows kind m x l) (eg ∙ sym (first_held false kind subject facts known m rows alike ranked same))
      ∙ ap (λ x. outcome_by rows kind m (first (meets false kind subject facts m) rows) x) (el ∙ sym (first_held true kind subject facts known m rows alike ranked same))

  pub judged_governed : (r : Row) (o : Outcome) → Some r ≡ find (holds false m subject known) rows → ((l : Option Row) → o ≡ outcome_by rows kind m (Some r) l) → o ≡ outcome rows kind subject facts m
  judged_governed r o e h =
      h (find (holds true m subject known) rows)
      ∙ judged_by (Some r) (find (holds true m subject known) rows) e (λ i. find (holds true m subject known) rows)

  pub judged_default : (l : Option Row) (o : Outcome) → None ≡ find (holds false m subject known) rows → l ≡ find (holds true m subject known) rows → o ≡ outcome_by rows kind m None l → o ≡ outcome rows kind subject facts m
  judged_default l o e el h = h ∙ judged_by None l e el
