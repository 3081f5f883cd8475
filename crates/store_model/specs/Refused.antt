-- The first row of a store that isn't accepted. This project's own.
use Rattle.std.specs.Prelude.{◌≡◌, List, [], ◌∷◌, ◌++◌}
use Rattle.store_model.specs.Raw.{RawReceipt, RawRule, RawTables, StoreRow, format_row, switch_row, receipt_row, rule_row}
use Rattle.store_model.specs.Upgraded.{upgraded}
use Rattle.store_model.specs.Accepted.{HasFormat, HasSwitch, AcceptsReceipts, AcceptsRules}

-- the first bad element of a list: what is before it is good, and with it isn't
pub record IsFirstBad {X : Type 0} (Good : List X → Type 0) (list : List X) (x : X) : Type 0 where
  pub before : List X
  pub behind : List X
  pub split : list ≡ before ++ x ∷ behind
  pub good : Good before
  pub bad : Good (before ++ x ∷ []) → ⊥

-- the first row of this format that breaks its rules: the format is looked at first, then the switch, the receipts, the rules
abbrev pub BreaksRulesAt : RawTables → StoreRow → Type 0
BreaksRulesAt raw format_row = HasFormat raw → ⊥
BreaksRulesAt raw switch_row = HasFormat raw × (HasSwitch raw → ⊥)
BreaksRulesAt raw (receipt_row num) =
    HasFormat raw × HasSwitch raw × ((r : RawReceipt) × (r.num ≡ num) × IsFirstBad AcceptsReceipts raw.receipts r)
BreaksRulesAt raw (rule_row id) =
    HasFormat raw × HasSwitch raw × AcceptsReceipts raw.receipts
    × ((r : RawRule) × (r.id ≡ id) × IsFirstBad (AcceptsRules raw.receipts) raw.rules r)

-- a store is refused at the first row that breaks the rules of this format, in its rows as this format has them
abbrev pub IsRefusedAt : RawTables → StoreRow → Type 0
IsRefusedAt raw row = BreaksRulesAt (upgraded raw) row
