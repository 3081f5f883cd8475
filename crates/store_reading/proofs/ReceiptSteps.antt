-- The receipts so far, and the row behind theirs.
use Rattle.std.proofs.Common.{◌≡◌, ℕ, ◌+◌, ◌<◌, ◌≤◌, List, [], ◌∷◌, ◌++◌, length, get_or, take, refl, sym, ap, ◌∙◌, subst, arith}
use Rattle.std.specs.Prelude.{All, map, Bool, true, false, IsTrue, ◌↔◌, Option, Some, None, is_some, option_map, ◌≢◌}
use Rattle.std.specs.Option.{option_copied}
use Rattle.std.specs.Borrow.{Bor}
use Rattle.std.proofs.lemmas.Bool.{both_ways}
use Rattle.std.proofs.lemmas.List.{map-append, length-map}
use Rattle.policy_model.specs.Tables as model
use Rattle.policy_model.specs.Edits.{kept}
use Rattle.policy_model.specs.declared.limits.TheConstants.{MOST_RECEIPTS}
use Rattle.store_model.specs.Raw.{RawReceipt}
use Rattle.store_model.specs.Accepted.{AcceptsReceipts}
use Rattle.store_model.specs.Stored.{raw_receipt}
use Rattle.raw_tables.specs.declared.receipt.RawReceipt as code
use Rattle.raw_tables.specs.Raw.{plain_receipt, plain_receipts}
use Rattle.rule_edits.specs.EditKey.{key_bytes}
use Rattle.edit_receipts.specs.declared.receipts.Receipt.{Receipt}
use Rattle.edit_receipts.specs.Receipts.{receipt_of, receipts_of}
use Rattle.store_reading.specs.declared.fault.StoreRow.TheVariants as places
use Rattle.store_reading.specs.declared.fault.StoreFault.TheVariants.{BadStore}
use Rattle.store_reading.specs.Fault.{IsBadReceipt}
use Rattle.store_reading.specs.Readings.{raw_receipts, IsReceiptAt, IsNextReceipt, HoldsReceipts}
use Rattle.store_reading.proofs.Kept.{IsOther, all_others, none_kept}
use Rattle.store_reading.proofs.NextReceipt.{one_more, last_is_new}
use Rattle.store_reading.proofs.FirstBad.{front_more, first_bad}

-- a row for each receipt
same_length : (receipts : List Receipt) → length (raw_receipts receipts) ≡ length receipts
same_length receipts = length-map (receipts_of receipts) raw_receipt ∙ length-map receipts receipt_of

-- a receipt is found where one is kept
module _ (found : Option (Bor Receipt)) (is : Bool) (k : Option model.Receipt) (same : option_map receipt_of (option_copied found) ≡ k) (tells : is ≡ is_some found) where
  -- found, so one is kept
  pub was_kept : is ≡ true → k ≢ None
  was_kept t none = some_here found same tells
    where
      some_here : (o : Option (Bor Receipt)) → option_map receipt_of (option_copied o) ≡ k → is ≡ is_some o → ⊥
      some_here None e s = both_ways is s t
      some_here (Some x) e s = let h : Some (receipt_of x.now) ≡ None = e ∙ none in cc

  -- not found, so none is
  pub was_not_kept : is ≡ false → k ≡ None
  was_not_kept f = none_here found same tells
    where
      none_here : (o : Option (Bor Receipt)) → option_map receipt_of (option_copied o) ≡ k → is ≡ is_some o → k ≡ None
      none_here None e s = sym e
      none_here (Some x) e s = absurd (both_ways is f s)

-- what isn't full has room
pub not_full : (full : Bool) (n most : ℕ) → full ≡ false → (IsTrue full ↔ (n ≡ most)) → n ≤ most → n < most
not_full full n most f is h = let other : n ≢ most = λ e. both_ways full f (is.1 e) in omega (arith, other, h)

-- the row behind those of receipts
module _ (receipts : List Receipt) (row : RawReceipt) (number : ℕ) (next : number ≡ length receipts + 1) where
  at_end : number ≡ length (raw_receipts receipts) + 1
  at_end = omega (arith, next, same_length receipts)

  module _ (receipt : Receipt) (stored : raw_receipt (receipt_of receipt) ≡ row) where
    -- under a new key it is accepted
    pub is_next : AcceptsReceipts (raw_receipts receipts) → length receipts < MOST_RECEIPTS → IsReceiptAt number row → kept (receipts_of receipts) (key_bytes receipt.key) ≡ None
        → AcceptsReceipts (raw_receipts receipts ++ row ∷ []) × IsNextReceipt receipts row receipt
    is_next h few fits new = (
      one_more (raw_receipts receipts) row h (omega (arith, few, same_length receipts)) (subst (λ n. IsReceiptAt n row) at_end fits)
          (subst (λ (r : RawReceipt). All (IsOther r.key) (raw_receipts receipts)) stored (all_others (key_bytes receipt.key) (receipts_of receipts) new)),
      record { stored = stored; new = new },
    )

    -- under a key that is kept it isn't
    pub is_repeat : kept (receipts_of receipts) (key_bytes receipt.key) ≢ None → AcceptsReceipts (raw_receipts receipts ++ row ∷ []) → ⊥
    is_repeat old h = old (none_kept (key_bytes receipt.key) (receipts_of receipts) (subst (λ (r : RawReceipt). All (IsOther r.key) (raw_receipts receipts)) (sym stored) (last_is_new (raw_receipts receipts) row h)))

module _ (rows : List code.RawReceipt) (at : ℕ) (row : code.RawReceipt) (lt : at < length rows) (is : get_or rows at row ≡ row) (receipts : List Receipt) (h : HoldsReceipts (plain_receipts (take at rows)) receipts) where
  -- the rows with the next one are accepted
  pub one_further : (receipt : Receipt) → AcceptsReceipts (raw_receipts receipts ++ plain_receipt row ∷ []) → IsNextReceipt receipts (plain_receipt row) receipt → HoldsReceipts (plain_receipts (take (at + 1) rows)) (receipts ++ receipt ∷ [])
  one_further receipt fits next =
      let front = front_more plain_receipt rows at row lt is in
      let same : raw_receipts receipts ++ plain_receipt row ∷ [] ≡ plain_receipts (take (at + 1) rows) = ap (λ l. l ++ plain_receipt row ∷ []) h.stored ∙ sym front in
      record {
        accepted = subst AcceptsReceipts same fits;
        stored =
            ap (map raw_receipt) (map-append receipt_of receipts (receipt ∷ []))
            ∙ map-append raw_receipt (receipts_of receipts) (receipt_of receipt ∷ [])
            ∙ ap (λ r. raw_receipts receipts ++ r ∷ []) next.stored
            ∙ same;
      }

  -- or the next one is the first that isn't
  pub is_bad : (AcceptsReceipts (raw_receipts receipts ++ plain_receipt row ∷ []) → ⊥) → IsBadReceipt (plain_receipts rows) (BadStore (places.Receipt row.num))
  is_bad bad = (plain_receipt row, refl, first_bad plain_receipt rows at row lt is AcceptsReceipts h.accepted (λ g. bad (subst (λ l. AcceptsReceipts (l ++ plain_receipt row ∷ [])) (sym h.stored) g)))
