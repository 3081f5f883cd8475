-- What commands say has one status; each law is proved on a function of src/laws.rt. This project's own.
use Rattle.std.specs.Prelude.{◌≡◌, ◌≢◌, ℕ, List, Option, Some, IsSome, ⊤}
use Rattle.gk_io.specs.Shelf.{File}
use Rattle.gk_io.specs.Faults.{Rose}
use Rattle.policy_keeper.specs.Told.{Told}
use Rattle.desk_state.specs.Failures.{Kept}
use Rattle.run_status.specs.declared.status.Status.{Status}
use Rattle.run_status.specs.declared.status.Status.TheVariants.{FileMissing, FileTooLong, BadFacts, BadStore, Refused, OutOfMemory}
use Rattle.command_words.specs.Table.{FileCommand, compile, compile_set, dump, assess, TableCommand, edit, status, list, import_file}
use Rattle.run_commands.specs.Says.{FilesSay, TablesSay}

-- the keeper tells its rows to a command on files that asks for them
abbrev pub TellsRows : Told → FileCommand → Type 0
TellsRows rows (compile name) = ⊤
TellsRows rows (compile_set name) = ⊤
TellsRows rows (dump name) = ⊤
TellsRows rows (assess kind name code) = IsSome rows

-- the statuses that come at whatever time the clock tells
abbrev pub IsTimeless : Status → Type 0
IsTimeless FileMissing = Unit {0}
IsTimeless FileTooLong = Unit {0}
IsTimeless BadFacts = Unit {0}
IsTimeless BadStore = Unit {0}
IsTimeless Refused = Unit {0}
IsTimeless other = ⊥

-- over files, rows and moments that are told a command on files says something with one status
abbrev pub FilesHaveOneStatus : Type 0
FilesHaveOneStatus = (files : List File) (moments : List ℕ) (rows : Told) (facts : Option (List ℕ)) (command : FileCommand) (first second : Status) (said other : List ℕ) → TellsRows rows command
    → FilesSay (Some files) (Some moments) rows facts command first said → FilesSay (Some files) (Some moments) rows facts command second other → first ≡ second

-- and at whatever time, where it is one of these
abbrev pub TimelessStatusIsOne : Type 0
TimelessStatusIsOne = (files : List File) (moments : Option (List ℕ)) (rows : Told) (facts : Option (List ℕ)) (command : FileCommand) (first second : Status) (said other : List ℕ) → TellsRows rows command → IsTimeless first
    → FilesSay (Some files) moments rows facts command first said → FilesSay (Some files) moments rows facts command second other → first ≡ second

-- a store that is bad is so to every command on the rules
abbrev pub BadStoreIsOne : Type 0
BadStoreIsOne = (files : List File) (rows : Told) (kept : Kept) (command : TableCommand) (second : Status) (said other : List ℕ) → IsSome rows
    → TablesSay (Some files) rows kept command BadStore said → TablesSay (Some files) rows kept command second other → second ≡ BadStore

-- the keeper's count could rise, and didn't
abbrev pub IsSteady : Kept → Type 0
IsSteady kept = Rose kept.before kept.counted → ⊥

-- the shelf tells its files to an import
abbrev pub TellsImport : Option (List File) → TableCommand → Type 0
TellsImport files (edit line) = ⊤
TellsImport files status = ⊤
TellsImport files list = ⊤
TellsImport files (import_file name) = IsSome files

-- over rows that are told, files that are told to an import, and a keeper whose count could rise and didn't, a command on the rules says
-- something with one status, unless memory ran out
abbrev pub TablesHaveOneStatus : Type 0
TablesHaveOneStatus = (files : Option (List File)) (rows : Told) (kept others : Kept) (command : TableCommand) (first second : Status) (said other : List ℕ) → TellsImport files command → IsSome rows → IsSteady kept → IsSteady others → first ≢ OutOfMemory → second ≢ OutOfMemory
    → TablesSay files rows kept command first said → TablesSay files rows others command second other → first ≡ second
