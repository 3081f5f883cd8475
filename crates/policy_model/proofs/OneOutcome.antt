-- What is computed of the rows is what the rule that governs says, and the only such outcome.
use Rattle.std.proofs.Common.{◌≡◌, ℕ, refl, ap, ◌∙◌, Option}
use Rattle.std.specs.Prelude.{true, false}
use Rattle.req_tree.specs.Subject.{Subject}
use Rattle.req_tree.specs.Facts.{Facts}
use Rattle.policy_model.specs.Rules.{Row, Kind, Meets, Governs, IsLatent, first, meets}
use Rattle.policy_model.specs.Outcomes.{outcome, outcome_by}
use Rattle.policy_model.specs.Tables.{Tables}
use Rattle.policy_model.specs.History.{HasOwnIds}
use Rattle.policy_model.specs.Laws.{OutcomeIsRight, GovernsOnce, LatentOnce, OutcomeIsOne}
use Rattle.policy_model.proofs.FirstRows.{first_meets}
use Rattle.policy_model.proofs.OwnIds.{one_answer}

pub outcome_is_right : OutcomeIsRight
outcome_is_right rows kind subject facts m =
    (first (meets false kind subject facts m) rows, first (meets true kind subject facts m) rows, first_meets false kind subject facts m rows, first_meets true kind subject facts m rows, refl)

pub governs_once : GovernsOnce
governs_once t ids kind subject facts m a b h k = one_answer (Meets false kind subject facts m) t.rows a b ids.apart h k

pub latent_once : LatentOnce
latent_once t ids kind subject facts m a b h k = one_answer (Meets true kind subject facts m) t.rows a b ids.apart h k

-- the outcome by two rows that were found is the outcome
pub outcome_found : (t : Tables) → HasOwnIds t → (kind : Kind) (subject : Subject) (facts : Facts) (m : ℕ) (g l : Option Row) →
    Governs t.rows kind subject facts m g → IsLatent t.rows kind subject facts m l → outcome_by t.rows kind m g l ≡ outcome t.rows kind subject facts m
outcome_found t ids kind subject facts m g l h k =
    ap (λ x. outcome_by t.rows kind m x l) (governs_once t ids kind subject facts m g (first (meets false kind subject facts m) t.rows) h (first_meets false kind subject facts m t.rows))
    ∙ ap (λ y. outcome_by t.rows kind m (first (meets false kind subject facts m) t.rows) y) (latent_once t ids kind subject facts m l (first (meets true kind subject facts m) t.rows) k (first_meets true kind subject facts m t.rows))

pub outcome_is_one : OutcomeIsOne
outcome_is_one t ids kind subject facts m o h = h.4 ∙ outcome_found t ids kind subject facts m h.0 h.1 h.2 h.3
