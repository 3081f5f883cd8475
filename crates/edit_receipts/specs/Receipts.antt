-- The program's receipts as those of the definitions.
use Rattle.std.specs.Prelude.{◌≡◌, ℕ, suc, List, [], ◌∷◌, map, Option, Some, None, option_map, if◌then◌else◌, bytes_eq}
use Rattle.std.specs.Map.{lookup}
use Rattle.std.specs.BTreeMap.{BTreeMap}
use Rattle.policy_model.specs.Tables.{Receipt}
use Rattle.edit_receipts.specs.declared.receipts.Receipt as code
use Rattle.rule_edits.specs.declared.edit_key.EditKey.{EditKey}
use Rattle.rule_edits.specs.EditKey.{key_bytes}

-- number, key, canonical text and how many rules were touched
abbrev pub receipt_of : code.Receipt → Receipt
receipt_of r = record { number = r.number; key = key_bytes r.key; content = r.content; rules = r.rules }

-- receipts in their order
abbrev pub receipts_of : List code.Receipt → List Receipt
receipts_of receipts = map receipt_of receipts

-- the place of the first receipt with a key
abbrev pub place_of : List Receipt → List ℕ → Option ℕ
place_of [] key = None
place_of (r ∷ receipts) key = if bytes_eq r.key key then Some 0 else option_map suc (place_of receipts key)

-- the place that a map has for a key
abbrev pub place_in : BTreeMap EditKey ℕ → List ℕ → Option ℕ
place_in places key = lookup (λ k. bytes_eq key (key_bytes k)) places.entries

-- a map has the place of each receipt at its key, and no others
abbrev pub HasPlaces : BTreeMap EditKey ℕ → List code.Receipt → Type 0
HasPlaces places receipts = (key : EditKey) → place_in places (key_bytes key) ≡ place_of (receipts_of receipts) (key_bytes key)
