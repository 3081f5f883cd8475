-- Rows are upgraded once, so they mean the same before and after.
use Rattle.std.proofs.Common.{refl, sym, ◌∙◌, subst}
use Rattle.store_model.specs.Accepted.{MeetsRules}
use Rattle.store_model.specs.Refused.{BreaksRulesAt}
use Rattle.store_model.specs.Laws.{UpgradedStays, StoredStays, UpgradedMeansTheSame, UpgradedIsAccepted, UpgradedIsRefused}

pub upgraded_stays : UpgradedStays
upgraded_stays raw = refl

pub stored_stays : StoredStays
stored_stays t = refl

pub upgraded_means_the_same : UpgradedMeansTheSame
upgraded_means_the_same raw t =
    (λ h. record { stored = sym (upgraded_stays raw) ∙ h.stored; trees = h.trees }, λ h. record { stored = upgraded_stays raw ∙ h.stored; trees = h.trees })

pub upgraded_is_accepted : UpgradedIsAccepted
upgraded_is_accepted raw = (subst MeetsRules (upgraded_stays raw), subst MeetsRules (sym (upgraded_stays raw)))

pub upgraded_is_refused : UpgradedIsRefused
upgraded_is_refused raw row = (subst (λ rows. BreaksRulesAt rows row) (upgraded_stays raw), subst (λ rows. BreaksRulesAt rows row) (sym (upgraded_stays raw)))
