-- Which stored rows are accepted when a store is loaded. This project's own.
use Rattle.std.specs.Prelude.{◌≡◌, ◌≢◌, ◌⊎◌, ℕ, ◌+◌, ◌<◌, ◌≤◌, ℤ, pos, ◌≤ℤ◌, ◌<ℤ◌, List, length, get_or, All, AllPairs, Contains, IfSome, true}
use Rattle.req_tree.specs.Tree.{Tree}
use Rattle.req_grammar.specs.Readings.{IsRequirementText}
use Rattle.policy_model.specs.declared.limits.TheConstants.{MOST_RULES, MOST_RECEIPTS, MOST_DISABLES, GREATEST_MOMENT, LEAST_PRIORITY, GREATEST_PRIORITY, MOST_LABEL_BYTES}
use Rattle.policy_model.specs.Contents.{IsRuleText}
use Rattle.policy_model.specs.Keys.{is_key}
use Rattle.store_model.specs.declared.limits.TheConstants.{STORE_FORMAT}
use Rattle.store_model.specs.Raw.{RawReceipt, RawRule, RawTables}
use Rattle.store_model.specs.Upgraded.{upgraded}
use Rattle.store_model.specs.Contents.{IsContentText, IsAddText}

-- from least to most, both included
abbrev pub IsWithin : ℕ → ℕ → ℤ → Type 0
IsWithin least most z = (pos least ≤ℤ z) × (z ≤ℤ pos most)

-- the format is the one that is read
abbrev pub HasFormat : RawTables → Type 0
HasFormat raw = raw.format ≡ STORE_FORMAT

-- the switch is 0 or 1
abbrev pub HasSwitch : RawTables → Type 0
HasSwitch raw = IsWithin 0 1 raw.switch

-- what a stored receipt has to be, wherever it is in the list
pub record IsStoredReceipt (r : RawReceipt) : Type 0 where
  pub key : is_key r.key ≡ true
  pub content : IsContentText r.content
  pub rules : IsWithin 0 MOST_RULES r.rules

-- each receipt's num is its place, counted from 1
abbrev pub AreNumbered : List RawReceipt → Type 0
AreNumbered receipts = (k : ℕ) (d : RawReceipt) → k < length receipts → (get_or receipts k d).num ≡ pos (k + 1)

-- receipts that are accepted: numbered by their places, not too many, and no two with one key
pub record AcceptsReceipts (receipts : List RawReceipt) : Type 0 where
  pub numbered : AreNumbered receipts
  pub most : length receipts ≤ MOST_RECEIPTS
  pub each : All IsStoredReceipt receipts
  pub keys : AllPairs (λ (a b : RawReceipt). a.key ≢ b.key) receipts

-- a receipt of this number is among them, and is that of an add
pub record IsAdded (receipts : List RawReceipt) (number : ℤ) : Type 0 where
  pub receipt : RawReceipt
  pub among : Contains receipts receipt
  pub its_number : receipt.num ≡ number
  pub adds : IsAddText receipt.content

-- 0, 2, 4 or 6
abbrev pub AreFlags : ℤ → Type 0
AreFlags z = (z ≡ pos 0) ⊎ ((z ≡ pos 2) ⊎ ((z ≡ pos 4) ⊎ (z ≡ pos 6)))

-- what a stored rule has to be beside these receipts, wherever it is in the list
pub record IsStoredRule (receipts : List RawReceipt) (r : RawRule) : Type 0 where
  pub added : IsAdded receipts r.id
  pub kind : IsWithin 1 3 r.kind
  pub allow : IsWithin 0 1 r.allow
  pub disabled : IsWithin 0 MOST_DISABLES r.disabled
  pub expires : IfSome r.expires (IsWithin 0 GREATEST_MOMENT)
  pub priority : (LEAST_PRIORITY ≤ℤ r.priority) × (r.priority ≤ℤ GREATEST_PRIORITY)
  pub flags : AreFlags r.flags
  pub label : length r.label ≤ MOST_LABEL_BYTES
  pub text : IsRuleText r.requirement
  pub parses : (tree : Tree) × IsRequirementText r.requirement tree

-- rules that are accepted beside these receipts: by rising id, and not too many
pub record AcceptsRules (receipts : List RawReceipt) (rules : List RawRule) : Type 0 where
  pub rising : AllPairs (λ (a b : RawRule). a.id <ℤ b.id) rules
  pub most : length rules ≤ MOST_RULES
  pub each : All (IsStoredRule receipts) rules

-- rows of this format meet its rules
pub record MeetsRules (raw : RawTables) : Type 0 where
  pub format : HasFormat raw
  pub switch : HasSwitch raw
  pub receipts : AcceptsReceipts raw.receipts
  pub rules : AcceptsRules raw.receipts raw.rules

-- the stored rows are accepted: as this format has them, they meet its rules
abbrev pub Accepts : RawTables → Type 0
Accepts raw = MeetsRules (upgraded raw)
