-- Stored rows at each bound and just past it, worked out by hand, and the place at which a store with such a row is refused.
use Rattle.std.proofs.Common.{◌≡◌, ℕ, ◌+◌, ◌≤◌, ℤ, List, [], ◌∷◌, ◌++◌, length, refl, arith, Option, None}
use Rattle.std.specs.Prelude.{pos, negsuc, ◌≤ℤ◌, codes, replicate, true, IfSome}
use Rattle.std.proofs.lemmas.Int.{ints}
use Rattle.std.proofs.lemmas.List.{length-replicate}
use Rattle.std.proofs.lemmas.List.Elements.{All-nil, All-head}
use Rattle.policy_model.specs.declared.limits.TheConstants.{GREATEST_MOMENT, LEAST_PRIORITY, GREATEST_PRIORITY, MOST_RULES, MOST_DISABLES, MOST_LABEL_BYTES}
use Rattle.policy_model.specs.Contents.{IsRuleText}
use Rattle.policy_model.specs.Keys.{is_key}
use Rattle.store_model.specs.Raw.{RawReceipt, RawRule, RawTables, format_row, switch_row, receipt_row, rule_row}
use Rattle.store_model.specs.Accepted.{IsWithin, IsStoredReceipt, AcceptsReceipts, AreFlags, IsStoredRule, AcceptsRules}
use Rattle.store_model.specs.Refused.{IsRefusedAt}

-- a store of no rows
abbrev new_store : RawTables
new_store = record { format = pos 1; switch = pos 1; receipts = []; rules = [] }

-- the store is refused in its format, before all else is looked at
another_format : IsRefusedAt (record { format = pos 2; switch = pos 7; receipts = []; rules = [] }) format_row
another_format h = grind (arith, ints, h)

switch_two : IsRefusedAt (record new_store { switch = pos 2 }) switch_row
switch_two = (refl, λ h. grind (arith, ints, h))

switch_below : IsRefusedAt (record new_store { switch = negsuc 0 }) switch_row
switch_below = (refl, λ h. grind (arith, ints, h))

-- a number and one past it
abbrev TakesTo : ℕ → ℕ → Type 0
TakesTo most n = IsWithin 0 most (pos n) × (IsWithin 0 most (pos (n + 1)) → ⊥)

a_thousand_disables : TakesTo MOST_DISABLES 1000
a_thousand_disables = ((grind (arith, ints), grind (arith, ints)), λ h. grind (arith, ints, h))

ten_thousand_rules : TakesTo MOST_RULES 10000
ten_thousand_rules = ((grind (arith, ints), grind (arith, ints)), λ h. grind (arith, ints, h))

the_last_moment : TakesTo GREATEST_MOMENT 253402300799
the_last_moment = ((grind (arith, ints), grind (arith, ints)), λ h. grind (arith, ints, h))

none_below_zero : (most : ℕ) → IsWithin 0 most (negsuc 0) → ⊥
none_below_zero most h = grind (arith, ints, h)

abbrev never : Option ℤ
never = None

never_is_taken : IfSome never (IsWithin 0 GREATEST_MOMENT)
never_is_taken = tt

three_kinds : IsWithin 1 3 (pos 1) × IsWithin 1 3 (pos 3) × (IsWithin 1 3 (pos 0) → ⊥) × (IsWithin 1 3 (pos 4) → ⊥)
three_kinds = ((grind (arith, ints), grind (arith, ints)), (grind (arith, ints), grind (arith, ints)), (λ h. grind (arith, ints, h)), (λ h. grind (arith, ints, h)))

the_greatest_priority : (LEAST_PRIORITY ≤ℤ pos 1000000000000) × (pos 1000000000000 ≤ℤ GREATEST_PRIORITY) × (pos 1000000000001 ≤ℤ GREATEST_PRIORITY → ⊥)
the_greatest_priority = (grind (arith, ints), grind (arith, ints), λ h. grind (arith, ints, h))

the_least_priority : (LEAST_PRIORITY ≤ℤ negsuc 999999999999) × (LEAST_PRIORITY ≤ℤ negsuc 1000000000000 → ⊥)
the_least_priority = (grind (arith, ints), λ h. grind (arith, ints, h))

no_flag_of_one : AreFlags (pos 1) → ⊥
no_flag_of_one h = grind (arith, ints, h)

no_flag_of_eight : AreFlags (pos 8) → ⊥
no_flag_of_eight h = grind (arith, ints, h)

a_label_of_128_bytes : length {A = ℕ} (replicate 128 255) ≤ MOST_LABEL_BYTES
a_label_of_128_bytes = omega (arith, length-replicate {A = ℕ} 128 255)

no_label_of_129_bytes : length {A = ℕ} (replicate 129 255) ≤ MOST_LABEL_BYTES → ⊥
no_label_of_129_bytes h = omega (arith, h, length-replicate {A = ℕ} 129 255)

no_text_of_4097_bytes : IsRuleText (replicate 4097 97) → ⊥
no_text_of_4097_bytes h = omega (arith, h.short, length-replicate {A = ℕ} 4097 97)

no_line_feed : IsRuleText (codes "always" ++ 10 ∷ []) → ⊥
no_line_feed h = h.one_line 6 0 (omega arith) refl

-- keys are words of letters, digits, dots, underscores and dashes
no_key_with_a_space : is_key (codes "a b") ≡ true → ⊥
no_key_with_a_space h = cc

no_empty_key : is_key [] ≡ true → ⊥
no_empty_key h = cc

no_receipts : AcceptsReceipts []
no_receipts = record { numbered = λ k d lt. absurd (omega (arith, lt)); most = omega arith; each = All-nil IsStoredReceipt; keys = λ i j d lt in'. absurd (omega (arith, in')) }

no_rules : (receipts : List RawReceipt) → AcceptsRules receipts []
no_rules receipts = record { rising = λ i j d lt in'. absurd (omega (arith, in')); most = omega arith; each = All-nil (IsStoredRule receipts) }

-- a first receipt that breaks a rule of its own is refused, whatever follows
first_receipt_refused : (r : RawReceipt) (more : List RawReceipt) (rules : List RawRule) → (IsStoredReceipt r → ⊥) → IsRefusedAt (record { format = pos 1; switch = pos 0; receipts = r ∷ more; rules = rules }) (receipt_row r.num)
first_receipt_refused r more rules bad =
    (refl, (grind (arith, ints), grind (arith, ints)), (r, refl, record { before = []; behind = more; split = refl; good = no_receipts; bad = λ h. bad (All-head IsStoredReceipt r [] h.each) }))

-- and so is one whose number isn't 1
other_number_refused : (r : RawReceipt) (more : List RawReceipt) (rules : List RawRule) → (r.num ≡ pos 1 → ⊥) → IsRefusedAt (record { format = pos 1; switch = pos 0; receipts = r ∷ more; rules = rules }) (receipt_row r.num)
other_number_refused r more rules bad =
    (refl, (grind (arith, ints), grind (arith, ints)), (r, refl, record { before = []; behind = more; split = refl; good = no_receipts; bad = λ h. bad (h.numbered 0 r (omega arith)) }))

-- a second receipt under the key of the first is refused, and not the first
second_key_refused : (r s : RawReceipt) (more : List RawReceipt) (rules : List RawRule) → AcceptsReceipts (r ∷ []) → r.key ≡ s.key → IsRefusedAt (record { format = pos 1; switch = pos 0; receipts = r ∷ s ∷ more; rules = rules }) (receipt_row s.num)
second_key_refused r s more rules good same =
    (refl, (grind (arith, ints), grind (arith, ints)), (s, refl, record { before = r ∷ []; behind = more; split = refl; good = good; bad = λ h. h.keys 0 1 r (omega arith) (omega arith) same }))

-- a first rule that breaks a rule of its own is refused, once all receipts are accepted
first_rule_refused : (receipts : List RawReceipt) (r : RawRule) (more : List RawRule) → AcceptsReceipts receipts → (IsStoredRule receipts r → ⊥) → IsRefusedAt (record { format = pos 1; switch = pos 0; receipts = receipts; rules = r ∷ more }) (rule_row r.id)
first_rule_refused receipts r more accepted bad =
    (refl, (grind (arith, ints), grind (arith, ints)), accepted, (r, refl, record { before = []; behind = more; split = refl; good = no_rules receipts; bad = λ h. bad (All-head (IsStoredRule receipts) r [] h.each) }))

-- a rule without a receipt
no_rule_without_receipts : (r : RawRule) → IsStoredRule [] r → ⊥
no_rule_without_receipts r h = absurd (omega (arith, h.added.among.1))

-- a second rule with the id of the first is refused
second_id_refused : (receipts : List RawReceipt) (r s : RawRule) (more : List RawRule) → AcceptsReceipts receipts → AcceptsRules receipts (r ∷ []) → s.id ≤ℤ r.id → IsRefusedAt (record { format = pos 1; switch = pos 0; receipts = receipts; rules = r ∷ s ∷ more }) (rule_row s.id)
second_id_refused receipts r s more accepted good below =
    (refl, (grind (arith, ints), grind (arith, ints)), accepted, (s, refl, record { before = r ∷ []; behind = more; split = refl; good = good; bad = λ h. grind (arith, ints, below, h.rising 0 1 r (omega arith) (omega arith)) }))
