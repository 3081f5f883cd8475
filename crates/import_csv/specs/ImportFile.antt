-- A whole import file: the edits that its rows ask for, and what is wrong first. This project's own; records are those
-- of RFC 4180 as `csv` reads them.
use Rattle.std.specs.Prelude.{◌≡◌, ◌≢◌, ⊤, ℕ, ◌+◌, ◌<◌, ◌≤◌, List, [], ◌∷◌, ◌++◌, length, Ok, Err, codes}
use Rattle.csv_records.specs.Reading.{HasRecords}
use Rattle.policy_model.specs.Contents.{Edit}
use Rattle.import_csv.specs.declared.limits.TheConstants.{MOST_IMPORTED}
use Rattle.import_csv.specs.declared.fault.ImportFault.{ImportFault}
use Rattle.import_csv.specs.declared.fault.ImportFault.TheVariants.{BadHeader, BadRow, TooMany, OutOfMemory}
use Rattle.import_csv.specs.ImportRows.{IsRow}

-- the header row
abbrev pub header : List (List ℕ)
header =
    codes "key" ∷ codes "type" ∷ codes "verdict" ∷ codes "priority" ∷ codes "expires" ∷ codes "label" ∷ codes "flags" ∷ codes "requirement" ∷ []

-- the rows ask for these edits, one by one
abbrev pub AskFor : List (List (List ℕ)) → List Edit → Type 0
AskFor [] [] = ⊤
AskFor [] (e ∷ es) = ⊥
AskFor (fields ∷ rest) [] = ⊥
AskFor (fields ∷ rest) (e ∷ es) = IsRow fields (Ok e) × AskFor rest es

-- the bytes are a header and not too many rows, which ask for these edits
pub record IsImport (bytes : List ℕ) (edits : List Edit) : Type 0 where
  pub rows : List (List (List ℕ))
  pub read : HasRecords bytes (header ∷ rows)
  pub few : length rows ≤ MOST_IMPORTED
  pub asked : AskFor rows edits

-- no record stands first, or another one than the header
abbrev pub LacksHeader : List (List (List ℕ)) → Type 0
LacksHeader [] = ⊤
LacksHeader (first ∷ rest) = first ≢ header

-- so many rows behind the header ask for edits, and this one follows them
pub record IsRightUpTo (bytes : List ℕ) (count : ℕ) (next : List (List ℕ)) : Type 0 where
  pub front : List (List (List ℕ))
  pub more : List (List (List ℕ))
  pub edits : List Edit
  pub read : HasRecords bytes (header ∷ (front ++ next ∷ more))
  pub counted : count ≡ length front
  pub asked : AskFor front edits

-- what is wrong first in a file's bytes; the header is row 1
abbrev pub IsFirstFault : List ℕ → ImportFault → Type 0
IsFirstFault bytes BadHeader = (records : List (List (List ℕ))) × HasRecords bytes records × LacksHeader records
IsFirstFault bytes (BadRow row column) =
    (count : ℕ) × (next : List (List ℕ)) × IsRightUpTo bytes count next × (row ≡ count + 2) × (count < MOST_IMPORTED) × IsRow next (Err column)
IsFirstFault bytes TooMany = (next : List (List ℕ)) × IsRightUpTo bytes MOST_IMPORTED next
IsFirstFault bytes OutOfMemory = ⊥
