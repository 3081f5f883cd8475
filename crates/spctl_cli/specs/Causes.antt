-- When a run ends with which status. What comes exactly where something would be said yields to want of memory, to a fault of the sink, and
-- to what stands before it in the order of a run: the facts file, the keeper's load, the command's files, the clock, the command's work.
-- This project's own.
use Rattle.std.specs.Prelude.{◌≡◌, ◌≢◌, ◌↔◌, ℕ, ◌⊎◌, List, Option, Some, None, IsSome, ⊤}
use Rattle.gk_io.specs.Shelf.{File}
use Rattle.policy_model.specs.History.{Opening}
use Rattle.policy_keeper.specs.Told.{Told}
use Rattle.req_grammar.specs.declared.limits.TheConstants.{MOST_TEXT_BYTES}
use Rattle.req_blob.specs.declared.limits.TheConstants.{MOST_BYTES}
use Rattle.table_commands.specs.declared.limits.TheConstants.{MOST_IMPORT_BYTES}
use Rattle.run_status.specs.declared.status.Status.{Status}
use Rattle.run_status.specs.declared.status.Status.TheVariants.{Fine, Denied, ReadFault, WriteFault, ShelfFault, ClockFault, KeeperFault, FileMissing, FileTooLong, BadFacts, BadStore, Refused, OutOfMemory}
use Rattle.desk_state.specs.Failures.{Kept}
use Rattle.line_reader.specs.Limits.{IsWithin}
use Rattle.file_assessment.specs.Assessing as assessing
use Rattle.file_assessment.specs.Assessing.{HasFile}
use Rattle.desk_opening.specs.Facts.{SaysOfFacts}
use Rattle.desk_opening.specs.Opens.{IsOpening, SaysUnopened}
use Rattle.desk_opening.specs.Laws.{IsDeskless}
use Rattle.command_words.specs.Table as table
use Rattle.command_words.specs.Table.{FileCommand, compile, compile_set, dump, assess, TableCommand, Command, session, on_files, on_tables, rehearse}
use Rattle.command_words.specs.Lines.{CommandLine}
use Rattle.run_commands.specs.Says.{FilesSay, TablesSay}
use Rattle.run_commands.specs.Answers.{HasDesk}
use Rattle.run_commands.specs.Laws.{IsSteady, IsTimeless, TellsRows, TellsImport}
use Rattle.spctl_cli.specs.Words.{line_on}

-- the sink didn't fail, and memory didn't run out
abbrev pub IsAnswered : Status → Type 0
IsAnswered WriteFault = ⊥
IsAnswered OutOfMemory = ⊥
IsAnswered other = Unit {0}

-- nor did the shelf
abbrev pub IsFetched : Status → Type 0
IsFetched ShelfFault = ⊥
IsFetched other = IsAnswered other

-- nor the keeper
abbrev pub IsLoaded : Status → Type 0
IsLoaded KeeperFault = ⊥
IsLoaded other = IsFetched other

-- nor the clock
abbrev pub IsUncut : Status → Type 0
IsUncut ClockFault = ⊥
IsUncut other = IsLoaded other

-- the run came to its store: the keeper didn't fail, nor the shelf at a facts file that is named
abbrev pub ReachesStore : Option (List ℕ) → Status → Type 0
ReachesStore facts KeeperFault = ⊥
ReachesStore None ended = IsAnswered ended
ReachesStore (Some name) ended = IsFetched ended

-- a command on files came as far as what has this status: only what stands before it kept the run from saying it
abbrev pub ReachesFiles : Option (List ℕ) → Status → Status → Type 0
ReachesFiles facts BadFacts ended = IsFetched ended
ReachesFiles facts BadStore ended = ReachesStore facts ended
ReachesFiles facts FileMissing ended = IsLoaded ended
ReachesFiles facts FileTooLong ended = IsLoaded ended
ReachesFiles facts other ended = IsUncut ended

-- so did a session without a desk, whose files are its facts file alone
abbrev pub ReachesDesk : Option (List ℕ) → Status → Status → Type 0
ReachesDesk facts BadStore ended = ReachesStore facts ended
ReachesDesk facts other ended = IsFetched ended

-- and a command on the rules, which asks for no facts
abbrev pub ReachesTables : Status → Status → Type 0
ReachesTables BadStore ended = ReachesStore None ended
ReachesTables other ended = IsLoaded ended

-- no device failed
abbrev pub IsUnfailed : Status → Type 0
IsUnfailed ReadFault = ⊥
IsUnfailed WriteFault = ⊥
IsUnfailed ShelfFault = ⊥
IsUnfailed KeeperFault = ⊥
IsUnfailed ClockFault = ⊥
IsUnfailed other = Unit {0}

-- a command had its files, and did its work on them
abbrev pub IsWorked : Status → Type 0
IsWorked Fine = Unit {0}
IsWorked Denied = Unit {0}
IsWorked Refused = Unit {0}
IsWorked other = ⊥

-- what says why a command on the rules did nothing
abbrev pub IsUndone : Status → Type 0
IsUndone FileMissing = Unit {0}
IsUndone FileTooLong = Unit {0}
IsUndone BadStore = Unit {0}
IsUndone other = ⊥

-- a command on the rules was carried out, and refused nothing or something
abbrev pub IsCarriedOut : Status → Type 0
IsCarriedOut Fine = Unit {0}
IsCarriedOut Refused = Unit {0}
IsCarriedOut other = ⊥

-- the shelf tells its files where a facts file is named
abbrev pub TellsFacts : Option (List File) → Option (List ℕ) → Type 0
TellsFacts files None = ⊤
TellsFacts files (Some name) = IsSome files

-- the keeper's rows are told where the store is said to be bad
abbrev pub TellsStore : Told → Status → Type 0
TellsStore rows BadStore = IsSome rows
TellsStore rows other = ⊤

-- the command begins with the facts of the run
abbrev pub AsksFacts : Command → Type 0
AsksFacts session = ⊤
AsksFacts (on_files (assess kind name code)) = ⊤
AsksFacts other = ⊥

-- over these files something is said with this status of the facts file
abbrev pub WouldRefuseFacts : Option (List File) → Option (List ℕ) → Status → Type 0
WouldRefuseFacts files facts status = (text : List ℕ) × SaysOfFacts files facts status text

-- over these files and rows a session with this facts file says with this status why it has no desk
abbrev pub WouldNotOpen : Option (List File) → Told → Option (List ℕ) → Status → Type 0
WouldNotOpen files rows facts status = (text : List ℕ) × SaysUnopened files facts rows status text

-- over these files, rows and moments, where the clock tells them, a command on files says something with this status
abbrev pub WouldSay : List File → Option (List ℕ) → Told → Option (List ℕ) → FileCommand → Status → Type 0
WouldSay files moments rows facts command status = (text : List ℕ) × FilesSay (Some files) moments rows facts command status text

-- over these files and rows, and a keeper that doesn't fail, a command on the rules says something with this status
abbrev pub TablesWouldSay : Option (List File) → Told → TableCommand → Status → Type 0
TablesWouldSay files rows command status = (kept : Kept) × IsSteady kept × (text : List ℕ) × TablesSay files rows kept command status text

-- all files of the command are there, and within its limits
abbrev pub HasFiles : Option (List File) → FileCommand → Type 0
HasFiles files (compile name) = HasFile files name MOST_TEXT_BYTES
HasFiles files (compile_set name) = HasFile files name MOST_TEXT_BYTES
HasFiles files (dump name) = HasFile files name MOST_BYTES
HasFiles files (assess kind name code) = assessing.HasFiles files name code

-- and a desk begins somewhere, where the command asks for one
abbrev pub HasDeskFor : Option (List File) → Told → Option (List ℕ) → FileCommand → Type 0
HasDeskFor files rows facts (compile name) = ⊤
HasDeskFor files rows facts (compile_set name) = ⊤
HasDeskFor files rows facts (dump name) = ⊤
HasDeskFor files rows facts (assess kind name code) = HasDesk files facts rows

-- the file of an import is there, and within its limit
abbrev pub HasImport : Option (List File) → TableCommand → Type 0
HasImport files (table.edit line) = ⊤
HasImport files table.status = ⊤
HasImport files table.list = ⊤
HasImport files (table.import_file name) = HasFile files name MOST_IMPORT_BYTES

-- when a run over these files, moments and rows ends how. What is said of the facts file comes wherever it is so; what a session says that
-- has no desk, what a command on files says, and what a command on the rules says that did nothing, come exactly where they would be said;
-- so does all that a command on the rules says, where the keeper doesn't fail. A run whose files are there, whose desk begins somewhere
-- and whose devices don't fail does its work, or is out of memory
pub record Causes (files : Option (List File)) (moments : Option (List ℕ)) (rows : Told) (kept : Kept) (line : Option CommandLine) (left : Option (List ℕ)) (ended : Status) : Type 0 where
  pub facts_cause : (store : List ℕ) (facts : Option (List ℕ)) (command : Command) (status : Status) → line ≡ Some (line_on store facts command) → AsksFacts command
      → TellsFacts files facts → IsFetched ended → WouldRefuseFacts files facts status → ended ≡ status
  pub deskless_cause : (store : List ℕ) (facts : Option (List ℕ)) (status : Status) → line ≡ Some (line_on store facts session)
      → TellsFacts files facts → TellsStore rows status → IsDeskless status → ReachesDesk facts status ended → ((ended ≡ status) ↔ WouldNotOpen files rows facts status)
  pub files_cause : (told : List File) (store : List ℕ) (facts : Option (List ℕ)) (command : FileCommand) (status : Status) → line ≡ Some (line_on store facts (on_files command))
      → files ≡ Some told → TellsRows rows command → IsTimeless status → ReachesFiles facts status ended → ((ended ≡ status) ↔ WouldSay told moments rows facts command status)
  pub told_cause : (told : List File) (times : List ℕ) (store : List ℕ) (facts : Option (List ℕ)) (command : FileCommand) (status : Status) → line ≡ Some (line_on store facts (on_files command))
      → files ≡ Some told → moments ≡ Some times → TellsRows rows command → IsUncut ended → ((ended ≡ status) ↔ WouldSay told moments rows facts command status)
  pub undone_cause : (store : List ℕ) (facts : Option (List ℕ)) (command : TableCommand) (status : Status) → line ≡ Some (line_on store facts (on_tables command))
      → TellsImport files command → IsSome rows → IsUndone status → ReachesTables status ended → ((ended ≡ status) ↔ TablesWouldSay files rows command status)
  pub tables_cause : (store : List ℕ) (facts : Option (List ℕ)) (command : TableCommand) (status : Status) → line ≡ Some (line_on store facts (on_tables command))
      → TellsImport files command → IsSome rows → IsSteady kept → status ≢ OutOfMemory → IsLoaded ended → ((ended ≡ status) ↔ TablesWouldSay files rows command status)
  pub complete : (store : List ℕ) (facts : Option (List ℕ)) (bytes : List ℕ) → line ≡ Some (line_on store facts session)
      → TellsFacts files facts → IsSome rows → HasDesk files facts rows → left ≡ Some bytes → IsWithin bytes → IsUnfailed ended → (ended ≡ Fine) ⊎ (ended ≡ OutOfMemory)
  pub complete_on_files : (told : List File) (store : List ℕ) (facts : Option (List ℕ)) (command : FileCommand) → line ≡ Some (line_on store facts (on_files command))
      → files ≡ Some told → TellsRows rows command → HasFiles files command → HasDeskFor files rows facts command → IsUnfailed ended → IsWorked ended ⊎ (ended ≡ OutOfMemory)
  pub complete_on_tables : (store : List ℕ) (facts : Option (List ℕ)) (command : TableCommand) → line ≡ Some (line_on store facts (on_tables command))
      → TellsImport files command → IsSome rows → HasImport files command → HasDesk files None rows → IsUnfailed ended → IsCarriedOut ended ⊎ (ended ≡ OutOfMemory)
  pub complete_on_rehearsal : (store : List ℕ) (facts : Option (List ℕ)) (steps : ℕ) → line ≡ Some (line_on store facts (rehearse steps))
      → IsUnfailed ended → (ended ≡ Fine) ⊎ (ended ≡ OutOfMemory)
