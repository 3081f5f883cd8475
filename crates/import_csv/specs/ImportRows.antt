-- One row of an import file, and the edit that it asks for. This project's own; the words are those of an add line.
use Rattle.std.specs.Prelude.{◌≡◌, ℕ, ◌+◌, List, [], length, ◌==◌, ◌&&◌, not, nat_le, Option, Some, None, Result, Ok, Err, if◌then◌else◌}
use Rattle.std.specs.List.{list_all}
use Rattle.std.specs.Option.{ok_or}
use Rattle.csv.specs.Records.{field_at}
use Rattle.req_tree.specs.Tree.{Tree}
use Rattle.req_tokens.specs.declared.fault.TextFault.{TextFault}
use Rattle.policy_model.specs.declared.limits.TheConstants.{MOST_LABEL_BYTES, MOST_TEXT_BYTES}
use Rattle.policy_model.specs.Contents.{add, Edit}
use Rattle.line_model.specs.Words.{kind_word, allow_word, priority_word, expiry_word, flags_word, key_word}
use Rattle.line_model.specs.Fronts.{Terms, Front, new_row}
use Rattle.line_model.specs.Requirements.{ReadsAs}
use Rattle.line_model.specs.Edits.{keyed}
use Rattle.import_csv.specs.declared.limits.TheConstants.{COLUMNS}

-- a label as plain bytes, where there are not too many
abbrev pub label_field : List ℕ → Option (List ℕ)
label_field label = if nat_le (length label) MOST_LABEL_BYTES then Some label else None

-- the text of a requirement, where it isn't too long and has no LF
abbrev pub text_field : List ℕ → Option (List ℕ)
text_field text = if nat_le (length text) MOST_TEXT_BYTES && list_all (λ b. not (b == 10)) text then Some text else None

-- reading goes on with what was read, and ends at the first column that doesn't fit
infixl 10 ◌>>=◌
abbrev pub ◌>>=◌ : {A B : Type 0} → Result A ℕ → (A → Result B ℕ) → Result B ℕ
(Ok x) >>= next = next x
(Err column) >>= next = Err column

-- the bytes of a field, or none where there is no such field
abbrev pub field_or_none : Option (List ℕ) → List ℕ
field_or_none None = []
field_or_none (Some bytes) = bytes

-- the field of a place as what it reads as, or its column, which counts from 1
abbrev pub value_in : {A : Type 0} → (List ℕ → Option A) → ℕ → List (List ℕ) → Result A ℕ
value_in read place fields = ok_or (read (field_or_none (field_at fields place))) (place + 1)

-- priority, expires, label and flags
abbrev pub terms_in : List (List ℕ) → Result Terms ℕ
terms_in fields = do
  priority ← value_in priority_word 3 fields
  expires ← value_in expiry_word 4 fields
  label ← value_in label_field 5 fields
  flags ← value_in flags_word 6 fields
  Ok (record { priority = priority; expires = expires; label = label; flags = flags })

-- type, verdict and the terms
abbrev pub front_in : List (List ℕ) → Result Front ℕ
front_in fields = do
  kind ← value_in kind_word 1 fields
  allow ← value_in allow_word 2 fields
  terms ← terms_in fields
  Ok (record { kind = kind; allow = allow; terms = terms })

-- what a row asks for, before its requirement is read
pub record Asked : Type 0 where
  pub key : List ℕ
  pub front : Front
  pub text : List ℕ

-- what eight fields ask for, or the first column that doesn't fit
abbrev pub eight_fields : List (List ℕ) → Result Asked ℕ
eight_fields fields = do
  key ← value_in key_word 0 fields
  front ← front_in fields
  text ← value_in text_field 7 fields
  Ok (record { key = key; front = front; text = text })

-- what a row asks for; a row of another number of fields has its fault behind the last column
abbrev pub asked_in : List (List ℕ) → Result Asked ℕ
asked_in fields = if length fields == COLUMNS then eight_fields fields else Err (COLUMNS + 1)

-- the edit of a row whose requirement reads so; a text that is no requirement doesn't fit the last column
abbrev pub edit_by : Asked → Result Tree TextFault → Result Edit ℕ
edit_by asked (Ok tree) = Ok (keyed asked.key (add (new_row asked.front asked.text tree)))
edit_by asked (Err fault) = Err COLUMNS

-- what was asked for is this edit, or this column doesn't fit
abbrev pub Makes : Result Asked ℕ → Result Edit ℕ → Type 0
Makes (Err column) row = row ≡ Err column
Makes (Ok asked) row = (reads : Result Tree TextFault) × ReadsAs asked.text reads × (row ≡ edit_by asked reads)

-- a row asks for this edit, or this is its first column that doesn't fit
abbrev pub IsRow : List (List ℕ) → Result Edit ℕ → Type 0
IsRow fields row = Makes (asked_in fields) row
