-- The files that a command asks for, and what it says of one that it doesn't get. This project's own.
use Rattle.std.specs.Prelude.{◌≡◌, ℕ, ◌<◌, ◌≤◌, ◌⊎◌, List, Option, None, Some, length, ⊤}
use Rattle.gk_io.specs.Shelf.{File, file_named}
use Rattle.line_reader.specs.Lines.{with_lf}
use Rattle.run_status.specs.declared.fetch.Asked as asked
use Rattle.run_status.specs.declared.fetch.Asked.TheVariants as answer
use Rattle.run_status.specs.declared.status.Status.{Status}
use Rattle.run_status.specs.declared.status.Status.TheVariants.{FileMissing, FileTooLong}
use Rattle.run_status.specs.FileTexts.{file_missing_text, file_too_long_text}

-- these are the bytes of the file of that name, and they are within the limit
abbrev pub IsFile : Option (List File) → List ℕ → ℕ → List ℕ → Type 0
IsFile None name limit bytes = length bytes ≤ limit
IsFile (Some files) name limit bytes = (file_named files name ≡ Some bytes) × (length bytes ≤ limit)

-- no file has that name
abbrev pub IsMissing : Option (List File) → List ℕ → Type 0
IsMissing None name = ⊤
IsMissing (Some files) name = file_named files name ≡ None

-- the file of that name is longer than the limit
abbrev pub IsTooLong : Option (List File) → List ℕ → ℕ → Type 0
IsTooLong None name limit = ⊤
IsTooLong (Some files) name limit = (bytes : List ℕ) × (file_named files name ≡ Some bytes) × (limit < length bytes)

-- what a command says, by its status, that doesn't get its file
abbrev pub SaysWithoutFile : Option (List File) → List ℕ → ℕ → Status → List ℕ → Type 0
SaysWithoutFile files name limit FileMissing text = IsMissing files name × (text ≡ with_lf (file_missing_text name))
SaysWithoutFile files name limit FileTooLong text = IsTooLong files name limit × (text ≡ with_lf (file_too_long_text name))
SaysWithoutFile files name limit other text = ⊥

-- what a command says, by its status, that gets its file and does this work on the bytes
pub record SaysOfFile (Work : List ℕ → Status → List ℕ → Type 0) (files : Option (List File)) (name : List ℕ) (limit : ℕ) (status : Status) (text : List ℕ) : Type 0 where
  pub bytes : List ℕ
  pub file : IsFile files name limit bytes
  pub says : Work bytes status text

-- what a command says, by its status, that asks for a file and does this work on its bytes
abbrev pub SaysOnFile : (List ℕ → Status → List ℕ → Type 0) → Option (List File) → List ℕ → ℕ → Status → List ℕ → Type 0
SaysOnFile Work files name limit status text = SaysWithoutFile files name limit status text ⊎ SaysOfFile Work files name limit status text

-- what asking for a file comes to
abbrev pub IsAsked : Option (List File) → List ℕ → ℕ → asked.Asked → Type 0
IsAsked files name limit (answer.File bytes) = IsFile files name limit bytes.items
IsAsked files name limit (answer.Said said) = SaysWithoutFile files name limit said.status said.text
