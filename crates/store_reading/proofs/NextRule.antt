-- Accepted rules with one more behind them.
use Rattle.std.proofs.Common.{◌≡◌, ℕ, ◌+◌, ◌<◌, ◌≤◌, List, [], ◌∷◌, ◌++◌, length, get_or, refl, sym, subst, arith}
use Rattle.std.specs.Prelude.{All, AllPairs, ℤ, ◌<ℤ◌}
use Rattle.std.proofs.lemmas.List.{get_or_append_left, get_or_push, length_push}
use Rattle.std.proofs.lemmas.List.Quantifiers.{all_pairs_push}
use Rattle.std.proofs.lemmas.List.Elements.{All-push}
use Rattle.policy_model.specs.declared.limits.TheConstants.{MOST_RULES}
use Rattle.store_model.specs.Raw.{RawReceipt, RawRule}
use Rattle.store_model.specs.Accepted.{IsStoredRule, AcceptsRules}

-- the stored row has a lesser number
abbrev pub IsBelow : ℤ → RawRule → Type 0
IsBelow id s = s.id <ℤ id

module _ (rs : List RawReceipt) (rules : List RawRule) (r : RawRule) where
  -- a greater number is accepted
  pub one_more : AcceptsRules rs rules → length rules < MOST_RULES → All (IsBelow r.id) rules → IsStoredRule rs r → AcceptsRules rs (rules ++ r ∷ [])
  one_more h few below is = record {
    rising = all_pairs_push (λ (a b : RawRule). a.id <ℤ b.id) rules r h.rising (λ k d lt. below k d lt);
    most = omega (arith, length_push rules r, few);
    each = All-push (IsStoredRule rs) rules r h.each is;
  }

  module _ (h : AcceptsRules rs (rules ++ r ∷ [])) where
    -- the last one is a stored rule, and has the greatest number
    pub last_fits : IsStoredRule rs r
    last_fits = subst (IsStoredRule rs) (get_or_push rules r r (length rules) refl) (h.each (length rules) r (omega (arith, length_push rules r)))

    pub last_is_above : All (IsBelow r.id) rules
    last_is_above k d lt =
        subst (λ (b : RawRule). (get_or rules k d).id <ℤ b.id) (get_or_push rules r d (length rules) refl)
        (subst (λ (a : RawRule). a.id <ℤ (get_or (rules ++ r ∷ []) (length rules) d).id) (get_or_append_left rules (r ∷ []) d k lt) (h.rising k (length rules) d lt (omega (arith, length_push rules r))))
