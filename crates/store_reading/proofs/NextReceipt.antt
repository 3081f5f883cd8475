-- Accepted receipts with one more behind them.
use Rattle.std.proofs.Common.{◌≡◌, ℕ, ◌+◌, ◌<◌, ◌≤◌, List, [], ◌∷◌, ◌++◌, length, get_or, refl, sym, subst, arith, inl, inr}
use Rattle.std.specs.Prelude.{All, AllPairs, pos, ◌≢◌}
use Rattle.std.proofs.lemmas.Bool.{cases_order}
use Rattle.std.proofs.lemmas.List.{get_or_append_left, get_or_push, length_push}
use Rattle.std.proofs.lemmas.List.Quantifiers.{all_pairs_push}
use Rattle.std.proofs.lemmas.List.Elements.{All-push}
use Rattle.policy_model.specs.declared.limits.TheConstants.{MOST_RECEIPTS}
use Rattle.store_model.specs.Raw.{RawReceipt}
use Rattle.store_model.specs.Accepted.{IsStoredReceipt, AcceptsReceipts}
use Rattle.store_reading.specs.Readings.{IsReceiptAt}
use Rattle.store_reading.proofs.Kept.{IsOther}

-- one element more at the end
push_cases : {X : Type 0} (P : ℕ → X → Type 0) (xs : List X) (x : X) → ((k : ℕ) (d : X) → k < length xs → P k (get_or xs k d)) → P (length xs) x → (k : ℕ) (d : X) → k < length (xs ++ x ∷ []) → P k (get_or (xs ++ x ∷ []) k d)
push_cases P xs x h p k d lt = elim (cases_order k (length xs)) as (λ _. P k (get_or (xs ++ x ∷ []) k d)) [
  | inl same ↦ subst (P k) (sym (get_or_push xs x d k (sym same))) (subst (λ n. P n x) (sym same) p)
  | inr other ↦ elim other as (λ _. P k (get_or (xs ++ x ∷ []) k d)) [
    | inl below ↦ subst (P k) (sym (get_or_append_left xs (x ∷ []) d k below)) (h k d below)
    | inr above ↦ absurd (omega (arith, above, lt, length_push xs x))
  ]
]

module _ (rs : List RawReceipt) (r : RawReceipt) where
  -- the next number under a new key is accepted
  pub one_more : AcceptsReceipts rs → length rs < MOST_RECEIPTS → IsReceiptAt (length rs + 1) r → All (IsOther r.key) rs → AcceptsReceipts (rs ++ r ∷ [])
  one_more h few is others = record {
    numbered = push_cases (λ k (s : RawReceipt). s.num ≡ pos (k + 1)) rs r h.numbered is.numbered;
    most = omega (arith, length_push rs r, few);
    each = All-push IsStoredReceipt rs r h.each is.stored;
    keys = all_pairs_push (λ (a b : RawReceipt). a.key ≢ b.key) rs r h.keys (λ k d lt. others k d lt);
  }

  module _ (h : AcceptsReceipts (rs ++ r ∷ [])) where
    -- the last one has a new key
    pub last_is_new : All (IsOther r.key) rs
    last_is_new k d lt =
        subst (λ (b : RawReceipt). (get_or rs k d).key ≢ b.key) (get_or_push rs r d (length rs) refl)
        (subst (λ (a : RawReceipt). a.key ≢ (get_or (rs ++ r ∷ []) (length rs) d).key) (get_or_append_left rs (r ∷ []) d k lt) (h.keys k (length rs) d lt (omega (arith, length_push rs r))))
