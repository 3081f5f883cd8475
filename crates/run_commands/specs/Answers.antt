-- What comes of each command but a session: what it says, or why it says nothing. What stands before a failure in the order of a run was
-- there. This project's own.
use Rattle.std.specs.Prelude.{◌≡◌, ◌⊎◌, ℕ, List, Option, None, Result, Ok, Err, IfOk, IfErr, IsSome, ⊤}
use Rattle.gk_io.specs.Shelf.{File}
use Rattle.gk_io.specs.Faults.{Rose}
use Rattle.policy_model.specs.History.{Opening}
use Rattle.policy_keeper.specs.Told.{Told, Stays}
use Rattle.desk_state.specs.Failures.{Kept}
use Rattle.run_status.specs.declared.said.Said as code_said
use Rattle.run_status.specs.declared.status.Status.TheVariants.{BadStore}
use Rattle.run_status.specs.declared.stop.Stop.TheVariants.{ShelfFault, ClockFault, OutOfMemory}
use Rattle.file_assessment.specs.Assessing.{HasFiles}
use Rattle.desk_opening.specs.Facts.{HasFacts}
use Rattle.desk_opening.specs.Opens.{IsOpening, SaysUnopened}
use Rattle.command_words.specs.Table.{FileCommand, compile, compile_set, dump, assess, TableCommand, edit, status, list, import_file}
use Rattle.run_commands.specs.declared.halt.Halt.{Halt}
use Rattle.run_commands.specs.declared.halt.Halt.TheVariants.{Stop, KeeperFault}
use Rattle.run_commands.specs.Says.{FilesSay, TablesSay}

-- a desk begins somewhere, with these facts and the keeper's rows
abbrev pub HasDesk : Option (List File) → Option (List ℕ) → Told → Type 0
HasDesk files facts rows = (o : Opening) × IsOpening files facts rows o

-- why nothing is said that asks for a file and memory alone
abbrev pub IsOfShelf : Halt → Type 0
IsOfShelf (Stop ShelfFault) = ⊤
IsOfShelf (Stop ClockFault) = ⊥
IsOfShelf (Stop OutOfMemory) = ⊤
IsOfShelf KeeperFault = ⊥

-- why nothing is said where there is no desk: the shelf failed at a facts file that is named, or the keeper, once the facts were read
abbrev pub UnopenedHalts : Option (List File) → Option (List ℕ) → Halt → Type 0
UnopenedHalts files facts (Stop ShelfFault) = IsSome facts
UnopenedHalts files facts (Stop ClockFault) = ⊥
UnopenedHalts files facts (Stop OutOfMemory) = ⊤
UnopenedHalts files facts KeeperFault = HasFacts files facts

-- why an assessment says nothing: the shelf failed at the facts file, or at its own files, once there was a desk; the clock, once its files
-- were there too; the keeper, once the facts were read
abbrev pub AssessHalts : Option (List File) → Told → Option (List ℕ) → List ℕ → Option (List ℕ) → Halt → Type 0
AssessHalts files rows facts name code (Stop ShelfFault) = IsSome facts ⊎ HasDesk files facts rows
AssessHalts files rows facts name code (Stop ClockFault) = HasDesk files facts rows × HasFiles files name code
AssessHalts files rows facts name code (Stop OutOfMemory) = ⊤
AssessHalts files rows facts name code KeeperFault = HasFacts files facts

-- why a command on files says nothing
abbrev pub FilesHalt : Option (List File) → Told → Option (List ℕ) → FileCommand → Halt → Type 0
FilesHalt files rows facts (compile name) why = IsOfShelf why
FilesHalt files rows facts (compile_set name) why = IsOfShelf why
FilesHalt files rows facts (dump name) why = IsOfShelf why
FilesHalt files rows facts (assess kind name code) why = AssessHalts files rows facts name code why

-- the command is an import, which alone of the commands on the rules asks for a file
abbrev pub IsImport : TableCommand → Type 0
IsImport (edit line) = ⊥
IsImport status = ⊥
IsImport list = ⊥
IsImport (import_file name) = ⊤

-- why a command on the rules says nothing: the shelf failed at the file of an import, once there was a desk, or the keeper at its load
abbrev pub TablesHalt : Option (List File) → Told → TableCommand → Halt → Type 0
TablesHalt files rows command (Stop ShelfFault) = IsImport command × HasDesk files None rows
TablesHalt files rows command (Stop ClockFault) = ⊥
TablesHalt files rows command (Stop OutOfMemory) = ⊤
TablesHalt files rows command KeeperFault = ⊤

-- what comes of a session that has no desk
abbrev pub UnopenedAnswers : Option (List File) → Told → Option (List ℕ) → Result code_said.Said Halt → Type 0
UnopenedAnswers files rows facts (Ok said) = SaysUnopened files facts rows said.status said.text
UnopenedAnswers files rows facts (Err why) = UnopenedHalts files facts why

-- what comes of a command on files
abbrev pub FilesAnswer : Option (List File) → Option (List ℕ) → Told → Option (List ℕ) → FileCommand → Result code_said.Said Halt → Type 0
FilesAnswer files moments rows facts command (Ok said) = FilesSay files moments rows facts command said.status said.text
FilesAnswer files moments rows facts command (Err why) = FilesHalt files rows facts command why

-- no edit was made: the command makes none, or the store is bad, or nothing is said
abbrev pub MakesNone : TableCommand → Result code_said.Said Halt → Type 0
MakesNone status answer = ⊤
MakesNone list answer = ⊤
MakesNone command (Ok said) = said.status ≡ BadStore
MakesNone command (Err why) = ⊤

-- what comes of a command on the rules, and the rows that the keeper then tells where no edit was made
pub record TablesAnswer (files : Option (List File)) (rows : Told) (kept : Kept) (command : TableCommand) (answer : Result code_said.Said Halt) : Type 0 where
  pub says : IfOk answer (λ said. TablesSay files rows kept command said.status said.text)
  pub halts : IfErr answer (λ why. TablesHalt files rows command why)
  pub unmade : MakesNone command answer → Stays rows kept.told

-- the keeper and the clock over a command on files: only an assessment asks them
abbrev pub LeavesAlone : FileCommand → Told → Told → Option (List ℕ) → Option (List ℕ) → Type 0
LeavesAlone (assess kind name code) told now moments next = ⊤
LeavesAlone other told now moments next = (now ≡ told) × (next ≡ moments)
