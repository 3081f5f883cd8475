-- The receipt of a rule has its place by its number.
use Rattle.std.proofs.Common.{◌≡◌, ℕ, ◌+◌, ◌-◌, ◌<◌, ◌≤◌, List, length, get_or, refl, sym, ap, ◌∙◌, subst, arith}
use Rattle.std.specs.Prelude.{ℤ, pos, unsigned_abs}
use Rattle.std.proofs.lemmas.List.{get_or_default, get_or-map, length-map}
use Rattle.store_model.specs.Raw.{RawReceipt}
use Rattle.store_model.specs.Contents.{IsContentText, IsAddText}
use Rattle.store_model.specs.Accepted.{IsStoredReceipt, AcceptsReceipts, IsAdded}
use Rattle.raw_tables.specs.declared.receipt.RawReceipt as code
use Rattle.raw_tables.specs.Raw.{plain_receipt, plain_receipts}

module _ (rs : List RawReceipt) (h : AcceptsReceipts rs) where
  -- where the receipt of an added rule is
  pub record HasPlace (n : ℤ) : Type 0 where
    pub k : ℕ
    pub its_number : n ≡ pos (k + 1)
    pub inside : k < length rs
    pub adds : (d : RawReceipt) → IsAddText (get_or rs k d).content

  -- numbers are places, counted from 1
  pub at_place : (n : ℤ) → IsAdded rs n → HasPlace n
  at_place n a =
      let k = a.among.0 in
      let lt = a.among.1 in
      let same : get_or rs k a.receipt ≡ a.receipt = a.among.2 in
      record {
        k = k;
        its_number = sym a.its_number ∙ ap (λ (r : RawReceipt). r.num) (sym same) ∙ h.numbered k a.receipt lt;
        inside = lt;
        adds = λ d. subst (λ (r : RawReceipt). IsAddText r.content) (sym same ∙ get_or_default rs k a.receipt d lt) a.adds;
      }

  -- the receipt at the number's place adds
  pub adds_there : (n : ℤ) (count : ℕ) → pos count ≡ n → IsAdded rs n → (count - 1 < length rs) × ((d : RawReceipt) → IsAddText (get_or rs (count - 1) d).content)
  adds_there n count e a =
      let p = at_place n a in
      let same : count ≡ p.k + 1 = ap unsigned_abs (e ∙ p.its_number) in
      let place : p.k ≡ count - 1 = omega (arith, same) in
      (omega (arith, same, p.inside), λ d. subst (λ k. IsAddText (get_or rs k d).content) place (p.adds d))

  -- a receipt there that adds is the rule's
  pub is_added : (n : ℤ) (count : ℕ) (r : RawReceipt) → pos count ≡ n → 1 ≤ count → count - 1 < length rs → get_or rs (count - 1) r ≡ r → IsAddText r.content → IsAdded rs n
  is_added n count r e least lt same adds = record {
    receipt = r;
    among = (count - 1, lt, same);
    its_number = ap (λ (x : RawReceipt). x.num) (sym same) ∙ h.numbered (count - 1) r lt ∙ ap pos (omega (arith, least)) ∙ e;
    adds = adds;
  }

-- the receipt of a row of the program, at its place
module _ (rows : List code.RawReceipt) (h : AcceptsReceipts (plain_receipts rows)) (k : ℕ) (row : code.RawReceipt) (item : (k < length rows) × ((d : code.RawReceipt) → row ≡ get_or rows k d)) where
  inside : k < length (plain_receipts rows)
  inside = subst (λ n. k < n) (sym (length-map rows plain_receipt)) item.0

  there : get_or (plain_receipts rows) k (plain_receipt row) ≡ plain_receipt row
  there = get_or-map plain_receipt rows k row (plain_receipt row) item.0 ∙ ap plain_receipt (sym (item.1 row))

  -- its content is a canonical text
  pub its_content : IsContentText row.content
  its_content = (subst IsStoredReceipt there (h.each k (plain_receipt row) inside)).content

  -- where it adds, the rule was added
  pub it_is_added : (n : ℤ) (count : ℕ) → k ≡ count - 1 → pos count ≡ n → 1 ≤ count → IsAddText row.content → IsAdded (plain_receipts rows) n
  it_is_added n count place e least adds =
      is_added (plain_receipts rows) h n count (plain_receipt row) e least (subst (λ i. i < length (plain_receipts rows)) place inside)
      (subst (λ i. get_or (plain_receipts rows) i (plain_receipt row) ≡ plain_receipt row) place there) adds

  -- and the other way round
  pub it_adds : (n : ℤ) (count : ℕ) → k ≡ count - 1 → pos count ≡ n → IsAdded (plain_receipts rows) n → IsAddText row.content
  it_adds n count place e a =
      subst (λ (r : RawReceipt). IsAddText r.content) (subst (λ i. get_or (plain_receipts rows) i (plain_receipt row) ≡ plain_receipt row) place there)
      ((adds_there (plain_receipts rows) h n count e a).1 (plain_receipt row))
