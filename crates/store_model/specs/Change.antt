-- What an accepted edit changes in the stored rows. This project's own.
use Rattle.std.specs.Prelude.{◌≡◌, ℕ, ℤ, pos, ◌+ℤ◌, List, [], ◌∷◌, ◌++◌, map, Bool, true, not, ◌&&◌, Option, Some, None, option_map, if◌then◌else◌, bytes_eq}
use Rattle.std.specs.Ordering.{int_eq}
use Rattle.std.specs.List.{filter}
use Rattle.policy_model.specs.Rules.{Kind}
use Rattle.policy_model.specs.Contents.{Which, by_id, by_label, Selector, Content, add, remove, enable, disable, expire, switch, Edit}
use Rattle.policy_model.specs.Texts.{content_text}
use Rattle.policy_model.specs.Tables.{Tables, done}
use Rattle.policy_model.specs.Changes.{added_row}
use Rattle.policy_model.specs.Edits.{does}
use Rattle.store_model.specs.Raw.{RawReceipt, RawRule, RawTables}
use Rattle.store_model.specs.Stored.{kind_number, bool_number, raw_rule}

-- an edit, its number, and how many rules it touches
pub record Change : Type 0 where
  pub number : ℕ
  pub edit : Edit
  pub touched : ℕ

-- the tables take this change: they accept its edit, with its number and its count of touched rules
abbrev pub Takes : Tables → Change → Type 0
Takes t c = (does t c.edit).answer ≡ done c.number c.touched

-- the stored rule has the id or the label
abbrev pub raw_named_by : Which → RawRule → Bool
raw_named_by (by_id n) r = int_eq r.id (pos n)
raw_named_by (by_label l) r = bytes_eq r.label l

-- the stored rule is of the kind, or any kind will do
abbrev pub raw_in_kind : Option Kind → RawRule → Bool
raw_in_kind None r = true
raw_in_kind (Some k) r = int_eq r.kind (kind_number k)

-- the stored rule is one of those that a selector names
abbrev pub raw_selects : Selector → RawRule → Bool
raw_selects s r = raw_named_by s.which r && raw_in_kind s.kind r

-- the stored rules, the selected ones changed
abbrev pub raw_change : Selector → (RawRule → RawRule) → List RawRule → List RawRule
raw_change s f rules = map (λ r. if raw_selects s r then f r else r) rules

-- the stored rules after the edit of number n
abbrev pub raw_rules_after : ℕ → Content → List RawRule → List RawRule
raw_rules_after n (add row) rules = rules ++ raw_rule (added_row n row) ∷ []
raw_rules_after n (remove s) rules = filter (λ r. not (raw_selects s r)) rules
raw_rules_after n (enable s) rules = raw_change s (λ r. record r { disabled = pos 0 }) rules
raw_rules_after n (disable s) rules = raw_change s (λ r. record r { disabled = r.disabled +ℤ pos 1 }) rules
raw_rules_after n (expire s m) rules = raw_change s (λ r. record r { expires = option_map pos m }) rules
raw_rules_after n (switch on) rules = rules

-- the stored switch after an edit
abbrev pub raw_switch_after : Content → ℤ → ℤ
raw_switch_after (add row) old = old
raw_switch_after (remove s) old = old
raw_switch_after (enable s) old = old
raw_switch_after (disable s) old = old
raw_switch_after (expire s m) old = old
raw_switch_after (switch on) old = bool_number on

-- the row in which the receipt of a change is stored
abbrev pub raw_receipt_of : Change → RawReceipt
raw_receipt_of c = record { num = pos c.number; key = c.edit.key; content = content_text c.edit.content; rules = pos c.touched }

-- the stored rows after a change: one receipt more, and the rules that it touches
abbrev pub raw_after : Change → RawTables → RawTables
raw_after c raw = record {
  format = raw.format;
  switch = raw_switch_after c.edit.content raw.switch;
  receipts = raw.receipts ++ raw_receipt_of c ∷ [];
  rules = raw_rules_after c.number c.edit.content raw.rules;
}
