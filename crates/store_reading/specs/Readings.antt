-- Stored fields and rows as they are read. This project's own.
use Rattle.std.specs.Prelude.{◌≡◌, ◌<ℤ◌, ℕ, ℤ, pos, List, map, All, AllPairs, Option, Some, None}
use Rattle.req_tree.specs.Tree.{Tree}
use Rattle.req_grammar.specs.Readings.{IsRequirementText}
use Rattle.policy_model.specs.Contents.{IsRuleText}
use Rattle.policy_model.specs.Edits.{kept}
use Rattle.policy_model.specs.Rules.{Row}
use Rattle.rule_edits.specs.EditKey.{key_bytes}
use Rattle.rule_values.specs.declared.rule.Rule.{Rule}
use Rattle.rule_values.specs.Rule.{row_of, rows_of}
use Rattle.edit_receipts.specs.declared.receipts.Receipt.{Receipt}
use Rattle.edit_receipts.specs.Receipts.{receipt_of, receipts_of}
use Rattle.store_model.specs.Raw.{RawReceipt, RawRule}
use Rattle.store_model.specs.Stored.{raw_receipt, raw_rule}
use Rattle.store_model.specs.Accepted.{IsStoredReceipt, AcceptsReceipts, AcceptsRules}

-- what a reading gives: a value of which this holds, where what was read is accepted, else none
abbrev pub Reads : {X : Type 0} → Type 0 → (X → Type 0) → Option X → Type 0
Reads Fits Is None = Fits → ⊥
Reads Fits Is (Some x) = Fits × Is x

-- a text that a rule may have, and that is a requirement
pub record IsTreeText (text : List ℕ) : Type 0 where
  pub text_is : IsRuleText text
  pub parses : (tree : Tree) × IsRequirementText text tree

-- a stored receipt of this number
pub record IsReceiptAt (number : ℕ) (row : RawReceipt) : Type 0 where
  pub numbered : row.num ≡ pos number
  pub stored : IsStoredReceipt row

-- the rows in which receipts are stored
abbrev pub raw_receipts : List Receipt → List RawReceipt
raw_receipts receipts = map raw_receipt (receipts_of receipts)

-- the receipt is stored in this row, and its key isn't among the others
pub record IsNextReceipt (others : List Receipt) (row : RawReceipt) (receipt : Receipt) : Type 0 where
  pub stored : raw_receipt (receipt_of receipt) ≡ row
  pub new : kept (receipts_of others) (key_bytes receipt.key) ≡ None

-- the receipts are stored in these rows, which are accepted
pub record HoldsReceipts (rows : List RawReceipt) (receipts : List Receipt) : Type 0 where
  pub accepted : AcceptsReceipts rows
  pub stored : raw_receipts receipts ≡ rows

-- the rule is stored in this row, and its tree is that of its text
pub record IsRuleOf (row : RawRule) (rule : Rule) : Type 0 where
  pub stored : raw_rule (row_of rule) ≡ row
  pub tree : ∥ IsRequirementText rule.text rule.tree ∥₁

-- the numbers of the rules rise
abbrev pub AreRising : List RawRule → Type 0
AreRising rows = AllPairs (λ (a b : RawRule). a.id <ℤ b.id) rows

-- the rules are stored in these rows, which are accepted beside these receipts, and their trees are those of their texts
pub record HoldsRules (receipts : List RawReceipt) (rows : List RawRule) (rules : List Rule) : Type 0 where
  pub accepted : AcceptsRules receipts rows
  pub stored : map raw_rule (rows_of rules) ≡ rows
  pub trees : All (λ (r : Row). ∥ IsRequirementText r.text r.tree ∥₁) (rows_of rules)
