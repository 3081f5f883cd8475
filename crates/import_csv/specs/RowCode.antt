-- What the program reads of a row, as the definitions have it.
use Rattle.std.specs.Prelude.{◌≡◌, ◌≢◌, ℕ, List, [], ◌∷◌, ◌++◌, map, Result, Ok, Err}
use Rattle.policy_model.specs.Contents as plain
use Rattle.line_words.specs.declared.fault.LineFault.{LineFault}
use Rattle.line_words.specs.declared.fault.LineFault.TheVariants as line
use Rattle.rule_edits.specs.Edit.{edit_of}
use Rattle.rule_edits.specs.EditKey.{key_bytes}
use Rattle.rule_edits.specs.NewFront.{added_front}
use Rattle.rule_edits.specs.declared.edit.Edit.{Edit}
use Rattle.import_csv.specs.declared.limits.TheConstants.{COLUMNS}
use Rattle.import_csv.specs.declared.fault.ImportFault.{ImportFault}
use Rattle.import_csv.specs.declared.fault.ImportFault.TheVariants.{BadRow, OutOfMemory}
use Rattle.import_csv.specs.declared.row.Asked as code
use Rattle.import_csv.specs.ImportRows.{Asked, IsRow}

-- what a row asks for, before its requirement is read
abbrev pub asked_of : code.Asked → Asked
asked_of asked = record { key = key_bytes asked.key; front = added_front asked.front; text = asked.text.now }

-- a call returned what reading gives, seen by view, or the column that doesn't fit
abbrev pub Gives : {A B : Type 0} → (A → B) → Result A ℕ → Result B ℕ → Type 0
Gives view (Ok a) read = read ≡ Ok (view a)
Gives view (Err column) read = read ≡ Err column

-- the program's edits as those of the definitions, in their order
abbrev pub edits_of : List Edit → List plain.Edit
edits_of edits = map edit_of edits

-- the refusal of the row of this number for a fault of its requirement
abbrev pub refused_by : ℕ → LineFault → ImportFault
refused_by row line.OutOfMemory = OutOfMemory
refused_by row fault = BadRow row COLUMNS

-- a call returned what is so of the row of this number, its edit or a column that doesn't fit, unless memory ran out
abbrev pub Answers : ℕ → (Result plain.Edit ℕ → Type 0) → Result Edit ImportFault → Type 0
Answers row IsSo (Ok edit) = IsSo (Ok (edit_of edit))
Answers row IsSo (Err fault) = fault ≢ OutOfMemory → (column : ℕ) × (fault ≡ BadRow row column) × IsSo (Err column)

-- a call added the edit of the row of this number behind others, or returned the first column that doesn't fit, unless memory ran out
abbrev pub TakesRow : {A : Type 0} → ℕ → List (List ℕ) → List plain.Edit → List plain.Edit → Result A ImportFault → Type 0
TakesRow row fields before after (Ok done) = (edit : plain.Edit) × IsRow fields (Ok edit) × (after ≡ before ++ edit ∷ [])
TakesRow row fields before after (Err fault) = fault ≢ OutOfMemory → (column : ℕ) × (fault ≡ BadRow row column) × IsRow fields (Err column)
