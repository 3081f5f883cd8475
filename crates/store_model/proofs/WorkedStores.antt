-- Stores that were worked out by hand: what two edits leave in one, rows at the bounds, and the first row that is refused.
-- That a text is a requirement is handed in.
use Rattle.std.proofs.Common.{◌≡◌, ℕ, ◌+◌, ◌<◌, List, [], ◌∷◌, ◌++◌, get_or, refl, sym, ap, ◌∙◌, subst, arith, inl, inr, Some, None, Ok}
use Rattle.std.specs.Prelude.{All, AllPairs, Bool, ◌||◌, ◌==◌, ◌≢◌, ◌⊎◌, pos, codes, map, true, false}
use Rattle.std.specs.List.{list_any}
use Rattle.std.specs.Fmt.{digits}
use Rattle.std.proofs.lemmas.Int.{ints}
use Rattle.std.proofs.lemmas.List.Elements.{All-nil, All-cons}
use Rattle.hex.specs.Hex.{decode_pairs}
use Rattle.req_tree.specs.Tree.{always}
use Rattle.req_tree.specs.Facts.{no_facts}
use Rattle.req_grammar.specs.Readings.{IsRequirementText}
use Rattle.policy_model.specs.Rules.{install}
use Rattle.policy_model.specs.Contents.{NewRow, add, by_id, disable, switch, Edit}
use Rattle.policy_model.specs.Texts.{places, add_front, content_text}
use Rattle.policy_model.specs.History.{edit, fresh, tables_of}
use Rattle.store_model.specs.Raw.{RawReceipt, RawRule, RawTables}
use Rattle.store_model.specs.Stored.{raw_of_tables}
use Rattle.store_model.specs.Contents.{IsContentText, IsAddText}
use Rattle.store_model.specs.Accepted.{AreNumbered, IsStoredReceipt, AcceptsReceipts, IsStoredRule, Accepts}
use Rattle.store_model.proofs.RowLists.{same_bytes}

-- a rule that an edit adds
abbrev own : NewRow
own = record {
  kind = install;
  allow = true;
  priority = pos 20500000;
  expires = Some 4000000000;
  label = codes "Own" ++ 32 ∷ 255 ∷ [];
  is_default = true;
  inhibit = false;
  text = codes "always";
  tree = always;
}

abbrev adds_own : Edit
adds_own = record { key = codes "k1"; content = add own }

abbrev disables_it : Edit
disables_it = record { key = codes "k2"; content = disable (record { which = by_id 1; kind = None }) }

abbrev switches_off : Edit
switches_off = record { key = codes "k3"; content = switch false }

abbrev first_receipt : RawReceipt
first_receipt = record { num = pos 1; key = codes "k1"; content = codes "add install allow 20.5 4000000000 Own%20%FF default always"; rules = pos 1 }

abbrev second_receipt : RawReceipt
second_receipt = record { num = pos 2; key = codes "k2"; content = codes "disable id 1 any"; rules = pos 1 }

abbrev third_receipt : RawReceipt
third_receipt = record { num = pos 3; key = codes "k3"; content = codes "switch off"; rules = pos 0 }

abbrev own_rule : RawRule
own_rule = record {
  id = pos 1;
  kind = pos 2;
  allow = pos 1;
  disabled = pos 1;
  expires = Some (pos 4000000000);
  priority = pos 20500000;
  flags = pos 2;
  label = codes "Own" ++ 32 ∷ 255 ∷ [];
  requirement = codes "always";
}

abbrev worked_store : RawTables
worked_store = record { format = pos 1; switch = pos 0; receipts = first_receipt ∷ second_receipt ∷ third_receipt ∷ []; rules = own_rule ∷ [] }

-- what three edits leave in a store
three_edits_are_stored : raw_of_tables (tables_of (fresh no_facts) (map edit (adds_own ∷ disables_it ∷ switches_off ∷ []))) ≡ worked_store
unfolding digits places add_front content_text
three_edits_are_stored = refl

-- a text that is read, and is canonical
own_text : IsRequirementText (codes "always") always → IsAddText first_receipt.content
unfolding digits places add_front content_text decode_pairs
own_text says = (own, record { reads = (Ok always, says, refl); canonical = refl })

own_content : IsAddText first_receipt.content → IsContentText first_receipt.content
own_content is = (add is.0, is.1)

disables_text : IsContentText second_receipt.content
unfolding digits content_text
disables_text = (disables_it.content, record { reads = refl; canonical = refl })

switch_text : IsContentText third_receipt.content
unfolding content_text
switch_text = (switch false, record { reads = refl; canonical = refl })

-- a text that is read and isn't canonical
zeros_are_not_canonical : IsContentText (codes "disable id 001 any") → ⊥
unfolding digits content_text
zeros_are_not_canonical (c, is) =
    let same : c ≡ disables_it.content = cc in
    let text : codes "disable id 001 any" ≡ codes "disable id 1 any" = is.canonical ∙ ap content_text same in
    cc

-- a text that isn't read
no_rule_zero : IsContentText (codes "disable id 0 any") → ⊥
no_rule_zero (c, is) = let fault = is.reads in cc

abbrev worked_receipts : List RawReceipt
worked_receipts = first_receipt ∷ second_receipt ∷ third_receipt ∷ []

one_of_three : (k : ℕ) → k < 3 → (k ≡ 0) ⊎ ((k ≡ 1) ⊎ (k ≡ 2))
one_of_three k h = grind (arith, h)

their_numbers : AreNumbered worked_receipts
their_numbers k d lt = elim (one_of_three k lt) as (λ _. (get_or worked_receipts k d).num ≡ pos (k + 1)) [
  | inl e ↦ subst (λ n. (get_or worked_receipts n d).num ≡ pos (n + 1)) (sym e) refl
  | inr other ↦ elim other as (λ _. (get_or worked_receipts k d).num ≡ pos (k + 1)) [
    | inl e ↦ subst (λ n. (get_or worked_receipts n d).num ≡ pos (n + 1)) (sym e) refl
    | inr e ↦ subst (λ n. (get_or worked_receipts n d).num ≡ pos (n + 1)) (sym e) refl
  ]
]

-- the keys of three receipts
abbrev Keys : RawReceipt → RawReceipt → Type 0
Keys a b = a.key ≢ b.key

two_of_three : (i j : ℕ) → i < j → j < 3 → ((i ≡ 0) × (j ≡ 1)) ⊎ (((i ≡ 0) × (j ≡ 2)) ⊎ ((i ≡ 1) × (j ≡ 2)))
two_of_three i j h k = grind (arith, h, k)

abbrev KeysAt : RawReceipt → ℕ → ℕ → Type 0
KeysAt d i j = Keys (get_or worked_receipts i d) (get_or worked_receipts j d)

at_places : (d : RawReceipt) (i j a b : ℕ) → (i ≡ a) × (j ≡ b) → KeysAt d a b → KeysAt d i j
at_places d i j a b e h = subst (λ n. KeysAt d n j) (sym e.0) (subst (KeysAt d a) (sym e.1) h)

their_keys : AllPairs Keys worked_receipts
their_keys i j d lt in' = elim (two_of_three i j lt in') as (λ _. KeysAt d i j) [
  | inl e ↦ at_places d i j 0 1 e (same_bytes (codes "k1") (codes "k2") refl)
  | inr other ↦ elim other as (λ _. KeysAt d i j) [
    | inl e ↦ at_places d i j 0 2 e (same_bytes (codes "k1") (codes "k3") refl)
    | inr e ↦ at_places d i j 1 2 e (same_bytes (codes "k2") (codes "k3") refl)
  ]
]

receipts_are_accepted : IsRequirementText (codes "always") always → AcceptsReceipts worked_receipts
receipts_are_accepted says = record {
  numbered = their_numbers;
  most = omega arith;
  each = All-cons IsStoredReceipt first_receipt (second_receipt ∷ third_receipt ∷ []) (record { key = refl; content = own_content (own_text says); rules = (grind (arith, ints), grind (arith, ints)) })
      (All-cons IsStoredReceipt second_receipt (third_receipt ∷ []) (record { key = refl; content = disables_text; rules = (grind (arith, ints), grind (arith, ints)) })
      (All-cons IsStoredReceipt third_receipt [] (record { key = refl; content = switch_text; rules = (grind (arith, ints), grind (arith, ints)) }) (All-nil IsStoredReceipt)));
  keys = their_keys;
}

other : (byte : ℕ) → (byte == 10) ≡ false → byte ≢ 10
other byte fails is = let no : true ≡ false = subst (λ (b : ℕ). (b == 10) ≡ false) is fails in cc

neither : (a b : Bool) → (a || b) ≡ false → (a ≡ false) × (b ≡ false)
neither true b h = cc
neither false b h = (refl, h)

no_tens : (text : List ℕ) → list_any (λ b. b == 10) text ≡ false → All (λ b. b ≢ 10) text
no_tens [] h = All-nil (λ b. b ≢ 10)
no_tens (b ∷ text) h =
    let both = neither (b == 10) (list_any (λ b. b == 10) text) h in
    All-cons (λ b. b ≢ 10) b text (other b both.0) (no_tens text both.1)

one_line : All (λ b. b ≢ 10) (codes "always")
one_line = no_tens (codes "always") refl

rule_is_accepted : IsRequirementText (codes "always") always → IsStoredRule worked_receipts own_rule
rule_is_accepted says = record {
  added = record { receipt = first_receipt; among = (0, omega arith, refl); its_number = refl; adds = own_text says };
  kind = (grind (arith, ints), grind (arith, ints));
  allow = (grind (arith, ints), grind (arith, ints));
  disabled = (grind (arith, ints), grind (arith, ints));
  expires = (grind (arith, ints), grind (arith, ints));
  priority = (grind (arith, ints), grind (arith, ints));
  flags = inr (inl refl);
  label = omega arith;
  text = record { short = omega arith; one_line = one_line };
  parses = (always, says);
}

-- the store of the three edits is accepted
worked_store_is_accepted : IsRequirementText (codes "always") always → Accepts worked_store
worked_store_is_accepted says = record {
  format = refl;
  switch = (grind (arith, ints), grind (arith, ints));
  receipts = receipts_are_accepted says;
  rules = record {
    rising = λ i j d lt in'. absurd (omega (arith, lt, in'));
    most = omega arith;
    each = All-cons (IsStoredRule worked_receipts) own_rule [] (rule_is_accepted says) (All-nil (IsStoredRule worked_receipts));
  };
}
