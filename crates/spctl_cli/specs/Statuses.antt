-- With which status a run of each command may end, and which devices it asks. This project's own.
use Rattle.std.specs.Prelude.{◌≡◌, ◌⊎◌, ℕ, List, Option, None, Some, IsSome, ⊤}
use Rattle.policy_keeper.specs.Told.{Told}
use Rattle.run_status.specs.declared.status.Status.{Status}
use Rattle.run_status.specs.declared.status.Status.TheVariants.{Fine, Denied, Usage, ReadFault, WriteFault, ShelfFault, ClockFault, KeeperFault, FileMissing, FileTooLong, BadFacts, BadStore, Refused, SessionTooLong, OutOfMemory}
use Rattle.command_words.specs.Table.{FileCommand, compile, compile_set, dump, assess, TableCommand, edit, status, list, import_file, Command, session, on_files, on_tables, rehearse}
use Rattle.command_words.specs.Lines.{CommandLine}

-- what asks for one file and its work alone
abbrev pub IsOfFile : Status → Type 0
IsOfFile Fine = Unit {0}
IsOfFile Refused = Unit {0}
IsOfFile FileMissing = Unit {0}
IsOfFile FileTooLong = Unit {0}
IsOfFile ShelfFault = Unit {0}
IsOfFile WriteFault = Unit {0}
IsOfFile OutOfMemory = Unit {0}
IsOfFile other = ⊥

-- an assessment
abbrev pub IsOfAssessment : Status → Type 0
IsOfAssessment Usage = ⊥
IsOfAssessment ReadFault = ⊥
IsOfAssessment SessionTooLong = ⊥
IsOfAssessment other = Unit {0}

-- one edit
abbrev pub IsOfEdit : Status → Type 0
IsOfEdit Fine = Unit {0}
IsOfEdit Refused = Unit {0}
IsOfEdit BadStore = Unit {0}
IsOfEdit KeeperFault = Unit {0}
IsOfEdit WriteFault = Unit {0}
IsOfEdit OutOfMemory = Unit {0}
IsOfEdit other = ⊥

-- the status and the list
abbrev pub IsOfLook : Status → Type 0
IsOfLook Fine = Unit {0}
IsOfLook BadStore = Unit {0}
IsOfLook KeeperFault = Unit {0}
IsOfLook WriteFault = Unit {0}
IsOfLook OutOfMemory = Unit {0}
IsOfLook other = ⊥

-- an import
abbrev pub IsOfImport : Status → Type 0
IsOfImport FileMissing = Unit {0}
IsOfImport FileTooLong = Unit {0}
IsOfImport ShelfFault = Unit {0}
IsOfImport other = IsOfEdit other

-- a rehearsal, which asks for nothing but its output and memory
abbrev pub IsRehearsed : Status → Type 0
IsRehearsed Fine = Unit {0}
IsRehearsed WriteFault = Unit {0}
IsRehearsed OutOfMemory = Unit {0}
IsRehearsed other = ⊥

-- a session, with a desk or without one
abbrev pub IsOfSession : Status → Type 0
IsOfSession Denied = ⊥
IsOfSession Usage = ⊥
IsOfSession ClockFault = ⊥
IsOfSession Refused = ⊥
IsOfSession other = Unit {0}

-- words that are no command
abbrev pub IsOfUsage : Status → Type 0
IsOfUsage Usage = Unit {0}
IsOfUsage WriteFault = Unit {0}
IsOfUsage OutOfMemory = Unit {0}
IsOfUsage other = ⊥

-- a command may end so
abbrev pub IsOfCommand : Command → Status → Type 0
IsOfCommand session ended = IsOfSession ended
IsOfCommand (on_files (compile name)) ended = IsOfFile ended
IsOfCommand (on_files (compile_set name)) ended = IsOfFile ended
IsOfCommand (on_files (dump name)) ended = IsOfFile ended
IsOfCommand (on_files (assess kind name code)) ended = IsOfAssessment ended
IsOfCommand (on_tables (edit line)) ended = IsOfEdit ended
IsOfCommand (on_tables status) ended = IsOfLook ended
IsOfCommand (on_tables list) ended = IsOfLook ended
IsOfCommand (on_tables (import_file name)) ended = IsOfImport ended
IsOfCommand (rehearse steps) ended = IsRehearsed ended

-- a run may end so, by its words
abbrev pub IsOwn : Option CommandLine → Status → Type 0
IsOwn None ended = IsOfUsage ended
IsOwn (Some line) ended = IsOfCommand line.command ended

-- a device failed, or may have failed behind a sink that did
abbrev pub MayHide : Status → Status → Type 0
MayHide fault ended = (ended ≡ fault) ⊎ (ended ≡ WriteFault)

-- the input is read by a session alone
abbrev pub AsksInput : Command → Type 0
AsksInput session = ⊤
AsksInput other = ⊥

-- files are asked for by a session with a facts file, by the commands on files and by an import
abbrev pub AsksShelf : Option (List ℕ) → Command → Type 0
AsksShelf facts session = IsSome facts
AsksShelf facts (on_files command) = ⊤
AsksShelf facts (on_tables (import_file name)) = ⊤
AsksShelf facts other = ⊥

-- the keeper may have failed: at the load of an assessment, of `status` and of `list`, whose faults are told; at each edit besides, whose
-- reply says so
abbrev pub AsksKeeper : Command → Status → Type 0
AsksKeeper session ended = ⊤
AsksKeeper (on_files (assess kind name code)) ended = MayHide KeeperFault ended
AsksKeeper (on_tables (edit line)) ended = ⊤
AsksKeeper (on_tables status) ended = MayHide KeeperFault ended
AsksKeeper (on_tables list) ended = MayHide KeeperFault ended
AsksKeeper (on_tables (import_file name)) ended = ⊤
AsksKeeper other ended = ⊥

-- the time is asked for by an assessment alone
abbrev pub AsksClock : Command → Type 0
AsksClock (on_files (assess kind name code)) = ⊤
AsksClock other = ⊥

-- so it is with a line, where the words are one
abbrev pub OfLine : (CommandLine → Type 0) → Option CommandLine → Type 0
OfLine Is None = ⊥
OfLine Is (Some line) = Is line

-- the source may have failed, by the words and the end
abbrev pub MayFailInput : Option CommandLine → Status → Type 0
MayFailInput line ended = OfLine (λ l. AsksInput l.command) line × MayHide ReadFault ended

-- the shelf may have failed
abbrev pub MayFailShelf : Option CommandLine → Status → Type 0
MayFailShelf line ended = OfLine (λ l. AsksShelf l.facts l.command) line × MayHide ShelfFault ended

-- the keeper may have failed
abbrev pub MayFailKeeper : Option CommandLine → Status → Type 0
MayFailKeeper line ended = OfLine (λ l. AsksKeeper l.command ended) line

-- the clock may have failed
abbrev pub MayFailClock : Option CommandLine → Status → Type 0
MayFailClock line ended = OfLine (λ l. AsksClock l.command) line × MayHide ClockFault ended

-- the keeper's tables are loaded by a session, an assessment and the commands on the rules
abbrev pub LoadsTables : Command → Type 0
LoadsTables session = ⊤
LoadsTables (on_files (assess kind name code)) = ⊤
LoadsTables (on_tables command) = ⊤
LoadsTables other = ⊥

-- a keeper and a clock that the words don't ask tell what they told
pub record IsUntouched (line : Option CommandLine) (told now : Told) (moments next : Option (List ℕ)) : Type 0 where
  pub keeper : (OfLine (λ l. LoadsTables l.command) line → ⊥) → now ≡ told
  pub clock : (OfLine (λ l. AsksClock l.command) line → ⊥) → next ≡ moments
