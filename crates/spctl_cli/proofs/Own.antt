-- With which status a run of each command ends.
use Rattle.std.proofs.Common.{◌≡◌, ◌≢◌, ◌⊎◌, ℕ, List, [], Bool, true, false, Option, None, Some, Result, Ok, Err, IfOk, IfErr, inl, inr, refl, sym, subst}
use Rattle.std.specs.List.{list_any}
use Rattle.gk_io.specs.Shelf.{File}
use Rattle.policy_model.specs.History.{Event, Opening}
use Rattle.policy_keeper.specs.Told.{Told}
use Rattle.session_model.specs.Slots.{State}
use Rattle.desk_state.specs.Failures.{Kept}
use Rattle.run_status.specs.declared.said.Said.{Said}
use Rattle.run_status.specs.declared.stop.Stop.TheVariants as stop
use Rattle.run_status.specs.declared.status.Status.{Status}
use Rattle.run_status.specs.declared.status.Status.TheVariants.{Fine, Denied, Usage, ReadFault, WriteFault, ShelfFault, ClockFault, KeeperFault, FileMissing, FileTooLong, BadFacts, BadStore, Refused, SessionTooLong, OutOfMemory}
use Rattle.run_status.specs.Said.{IsSpoken}
use Rattle.run_status.specs.Files.{SaysWithoutFile, SaysOnFile}
use Rattle.language_commands.specs.Taken.{TakenOrRefused}
use Rattle.language_commands.specs.Compiling.{Compiles}
use Rattle.language_commands.specs.CompilingSets.{CompilesSet}
use Rattle.language_commands.specs.Dumping.{Dumps, DumpsBy, begins_as_set}
use Rattle.table_commands.specs.Replies.{is_refusal, refused_when}
use Rattle.table_commands.specs.ImportSays.{Imports, IsRefused, IsDone, SaysImport}
use Rattle.table_commands.specs.declared.limits.TheConstants.{MOST_IMPORT_BYTES}
use Rattle.req_grammar.specs.declared.limits.TheConstants.{MOST_TEXT_BYTES}
use Rattle.req_blob.specs.declared.limits.TheConstants.{MOST_BYTES}
use Rattle.desk_opening.specs.Opens.{SaysOfStore, SaysUnopened}
use Rattle.command_words.specs.Table.{FileCommand, compile, compile_set, dump, assess, TableCommand, Command, session, on_files, on_tables, rehearse}
use Rattle.command_words.specs.Table as table
use Rattle.rehearse_command.specs.Rehearsing.{SaysRehearsal}
use Rattle.run_commands.specs.declared.halt.Halt.{Halt}
use Rattle.run_commands.specs.declared.halt.Halt.TheVariants as halt
use Rattle.run_commands.specs.Says.{FilesSay, TableSays, TablesSay}
use Rattle.run_commands.specs.Answers.{FilesAnswer, IsImport, LeavesAlone, TablesHalt, TablesAnswer}
use Rattle.run_commands.specs.Over.{MakesEdits}
use Rattle.spctl_cli.specs.Conclusions.{IsConcluded}
use Rattle.spctl_cli.specs.Ends.{RehearsalAnswers}
use Rattle.spctl_cli.specs.Statuses.{IsOfFile, IsOfAssessment, IsOfEdit, IsOfLook, IsOfImport, IsRehearsed, IsOfCommand, MayHide, AsksShelf, AsksKeeper, AsksClock, LoadsTables}
use Rattle.spctl_cli.proofs.Concluded.{answer_status, own_end}

-- a command on files

without_own : (files : Option (List File)) (name : List ℕ) (limit : ℕ) (status : Status) (text : List ℕ) → SaysWithoutFile files name limit status text → IsOfFile status
without_own files name limit FileMissing text h = tt
without_own files name limit FileTooLong text h = tt
without_own files name limit other text h = absurd h

pub taken_own : (Takes Refuses : List ℕ → Type 0) (status : Status) (said : List ℕ) → TakenOrRefused Takes Refuses status said → IsOfFile status
taken_own Takes Refuses Fine said h = tt
taken_own Takes Refuses Refused said h = tt
taken_own Takes Refuses other said h = absurd h

pub dump_own : (as_set : Bool) (bytes said : List ℕ) (status : Status) → DumpsBy as_set bytes status said → IsOfFile status
dump_own true bytes said status h = taken_own _ _ status said h
dump_own false bytes said status h = taken_own _ _ status said h

pub on_file_own : (Work : List ℕ → Status → List ℕ → Type 0) (files : Option (List File)) (name : List ℕ) (limit : ℕ) (status : Status) (text : List ℕ) → ((bytes : List ℕ) → Work bytes status text → IsOfFile status) → SaysOnFile Work files name limit status text → IsOfFile status
on_file_own Work files name limit status text work (inl h) = without_own files name limit status text h
on_file_own Work files name limit status text work (inr h) = work h.bytes h.says

spoken_assessed : (status : Status) → IsSpoken status → IsOfAssessment status
spoken_assessed Usage spoken = absurd spoken
spoken_assessed ReadFault spoken = absurd spoken
spoken_assessed SessionTooLong spoken = absurd spoken
spoken_assessed other spoken = tt

file_status : (answer : Result Said Halt) (files : Option (List File)) (moments : Option (List ℕ)) (rows : Told) (facts : Option (List ℕ)) (command : FileCommand) → IfOk answer (λ said. IsSpoken said.status) → FilesAnswer files moments rows facts command answer → IsOfCommand (on_files command) (answer_status answer)
file_status (Ok said) files moments rows facts (compile name) spoken h = on_file_own Compiles files name MOST_TEXT_BYTES said.status said.text (λ bytes w. taken_own _ _ said.status said.text w) h
file_status (Ok said) files moments rows facts (compile_set name) spoken h = on_file_own CompilesSet files name MOST_TEXT_BYTES said.status said.text (λ bytes w. taken_own _ _ said.status said.text w) h
file_status (Ok said) files moments rows facts (dump name) spoken h = on_file_own Dumps files name MOST_BYTES said.status said.text (λ bytes w. dump_own (begins_as_set bytes) bytes said.text said.status w) h
file_status (Ok said) files moments rows facts (assess kind name code) spoken h = spoken_assessed said.status spoken
file_status (Err (halt.Stop stop.ShelfFault)) files moments rows facts (compile name) spoken h = tt
file_status (Err (halt.Stop stop.ShelfFault)) files moments rows facts (compile_set name) spoken h = tt
file_status (Err (halt.Stop stop.ShelfFault)) files moments rows facts (dump name) spoken h = tt
file_status (Err (halt.Stop stop.ShelfFault)) files moments rows facts (assess kind name code) spoken h = tt
file_status (Err (halt.Stop stop.ClockFault)) files moments rows facts (compile name) spoken h = absurd h
file_status (Err (halt.Stop stop.ClockFault)) files moments rows facts (compile_set name) spoken h = absurd h
file_status (Err (halt.Stop stop.ClockFault)) files moments rows facts (dump name) spoken h = absurd h
file_status (Err (halt.Stop stop.ClockFault)) files moments rows facts (assess kind name code) spoken h = tt
file_status (Err (halt.Stop stop.OutOfMemory)) files moments rows facts (compile name) spoken h = tt
file_status (Err (halt.Stop stop.OutOfMemory)) files moments rows facts (compile_set name) spoken h = tt
file_status (Err (halt.Stop stop.OutOfMemory)) files moments rows facts (dump name) spoken h = tt
file_status (Err (halt.Stop stop.OutOfMemory)) files moments rows facts (assess kind name code) spoken h = tt
file_status (Err halt.KeeperFault) files moments rows facts (compile name) spoken h = absurd h
file_status (Err halt.KeeperFault) files moments rows facts (compile_set name) spoken h = absurd h
file_status (Err halt.KeeperFault) files moments rows facts (dump name) spoken h = absurd h
file_status (Err halt.KeeperFault) files moments rows facts (assess kind name code) spoken h = tt

files_write : (command : FileCommand) → IsOfCommand (on_files command) WriteFault
files_write (compile name) = tt
files_write (compile_set name) = tt
files_write (dump name) = tt
files_write (assess kind name code) = tt

pub files_own : (answer : Result Said Halt) (files : Option (List File)) (moments : Option (List ℕ)) (rows : Told) (facts : Option (List ℕ)) (command : FileCommand) (written sent : Option (List ℕ)) (ended : Status) → IfOk answer (λ said. IsSpoken said.status)
    → FilesAnswer files moments rows facts command answer → IsConcluded answer written sent ended → IsOfCommand (on_files command) ended
files_own answer files moments rows facts command written sent ended spoken h is =
    own_end (IsOfCommand (on_files command)) answer written sent ended (file_status answer files moments rows facts command spoken h) (files_write command) is

-- a command on the rules

when_edit : (refused : Bool) → IsOfEdit (refused_when refused)
when_edit true = tt
when_edit false = tt

when_import : (refused : Bool) → IsOfImport (refused_when refused)
when_import true = tt
when_import false = tt

without_import : (files : Option (List File)) (name : List ℕ) (status : Status) (text : List ℕ) → SaysWithoutFile files name MOST_IMPORT_BYTES status text → IsOfImport status
without_import files name FileMissing text h = tt
without_import files name FileTooLong text h = tt
without_import files name other text h = absurd h

settled_import : (o : Opening) (bytes : List ℕ) (status : Status) (text : List ℕ) (after : List Event) → IsRefused [] bytes status text after ⊎ IsDone o [] bytes status text after → IsOfImport status
settled_import o bytes status text after (inl refused) = subst IsOfImport (sym refused.status_is) tt
settled_import o bytes status text after (inr done) = subst IsOfImport (sym done.status_is) (when_import (list_any is_refusal done.replies))

imports_own : (o : Opening) (after : List Event) (bytes : List ℕ) (status : Status) (text : List ℕ) → Imports o [] after bytes status text → IsOfImport status
imports_own o after bytes OutOfMemory text h = tt
imports_own o after bytes other text h = settled_import o bytes other text after h

import_own : (o : Opening) (files : Option (List File)) (name : List ℕ) (status : Status) (text : List ℕ) (after : List Event) → SaysImport o [] files name status text after → IsOfImport status
import_own o files name status text after (inl h) = without_import files name status text h.says
import_own o files name status text after (inr h) = imports_own o after h.bytes status text h.says

bad_store : (told : Told) (status : Status) (text : List ℕ) → SaysOfStore told status text → status ≡ BadStore
bad_store told BadStore text h = refl
bad_store told other text h = absurd h

unopened_bad : (files : Option (List File)) (rows : Told) (status : Status) (text : List ℕ) → SaysUnopened files None rows status text → status ≡ BadStore
unopened_bad files rows status text (inl said) = absurd said
unopened_bad files rows status text (inr said) = bad_store rows status text said.1

over_own : (files : Option (List File)) (kept : Kept) (command : TableCommand) (o : Opening) (status : Status) (text : List ℕ) → TableSays files kept command o status text → IsOfCommand (on_tables command) status
over_own files kept (table.edit line) o status text h = subst IsOfEdit (sym h.says.says.status_is) (when_edit (is_refusal h.says.says.reply))
over_own files kept table.status o status text h = subst IsOfLook (sym h.status_is) tt
over_own files kept table.list o status text h = subst IsOfLook (sym h.status_is) tt
over_own files kept (table.import_file name) o status text h = import_own o files name status text h.after h.says

bad_own : (command : TableCommand) → IsOfCommand (on_tables command) BadStore
bad_own (table.edit line) = tt
bad_own table.status = tt
bad_own table.list = tt
bad_own (table.import_file name) = tt

tables_say_own : (files : Option (List File)) (rows : Told) (kept : Kept) (command : TableCommand) (status : Status) (text : List ℕ) → TablesSay files rows kept command status text → IsOfCommand (on_tables command) status
tables_say_own files rows kept command status text (inl h) = subst (IsOfCommand (on_tables command)) (sym (unopened_bad files rows status text h)) (bad_own command)
tables_say_own files rows kept command status text (inr h) = over_own files kept command h.0 status text h.2

table_status : (answer : Result Said Halt) (files : Option (List File)) (rows : Told) (kept : Kept) (command : TableCommand) → TablesAnswer files rows kept command answer → IsOfCommand (on_tables command) (answer_status answer)
table_status (Ok said) files rows kept command h = tables_say_own files rows kept command said.status said.text h.says
table_status (Err (halt.Stop stop.ShelfFault)) files rows kept (table.edit line) h = absurd h.halts.0
table_status (Err (halt.Stop stop.ShelfFault)) files rows kept table.status h = absurd h.halts.0
table_status (Err (halt.Stop stop.ShelfFault)) files rows kept table.list h = absurd h.halts.0
table_status (Err (halt.Stop stop.ShelfFault)) files rows kept (table.import_file name) h = tt
table_status (Err (halt.Stop stop.ClockFault)) files rows kept command h = absurd h.halts
table_status (Err (halt.Stop stop.OutOfMemory)) files rows kept (table.edit line) h = tt
table_status (Err (halt.Stop stop.OutOfMemory)) files rows kept table.status h = tt
table_status (Err (halt.Stop stop.OutOfMemory)) files rows kept table.list h = tt
table_status (Err (halt.Stop stop.OutOfMemory)) files rows kept (table.import_file name) h = tt
table_status (Err halt.KeeperFault) files rows kept (table.edit line) h = tt
table_status (Err halt.KeeperFault) files rows kept table.status h = tt
table_status (Err halt.KeeperFault) files rows kept table.list h = tt
table_status (Err halt.KeeperFault) files rows kept (table.import_file name) h = tt

tables_write : (command : TableCommand) → IsOfCommand (on_tables command) WriteFault
tables_write (table.edit line) = tt
tables_write table.status = tt
tables_write table.list = tt
tables_write (table.import_file name) = tt

pub tables_own : (answer : Result Said Halt) (files : Option (List File)) (rows : Told) (kept : Kept) (command : TableCommand) (written sent : Option (List ℕ)) (ended : Status) → TablesAnswer files rows kept command answer → IsConcluded answer written sent ended → IsOfCommand (on_tables command) ended
tables_own answer files rows kept command written sent ended h is =
    own_end (IsOfCommand (on_tables command)) answer written sent ended (table_status answer files rows kept command h) (tables_write command) is

-- a rehearsal

rehearsal_status : (answer : Result Said Halt) (steps : ℕ) → RehearsalAnswers steps answer → IsRehearsed (answer_status answer)
rehearsal_status (Ok said) steps h = subst IsRehearsed (sym h.status_is) tt
rehearsal_status (Err why) steps h = subst (λ w. IsRehearsed (answer_status (Err w))) (sym h) tt

pub rehearsal_own : (answer : Result Said Halt) (steps : ℕ) (written sent : Option (List ℕ)) (ended : Status) → RehearsalAnswers steps answer → IsConcluded answer written sent ended → IsRehearsed ended
rehearsal_own answer steps written sent ended h is = own_end IsRehearsed answer written sent ended (rehearsal_status answer steps h) tt is

-- no command is told the usage, and none but a session is too long

pub not_usage : (command : Command) → IsOfCommand command Usage → ⊥
not_usage session own = own
not_usage (on_files (compile name)) own = own
not_usage (on_files (compile_set name)) own = own
not_usage (on_files (dump name)) own = own
not_usage (on_files (assess kind name code)) own = own
not_usage (on_tables (table.edit line)) own = own
not_usage (on_tables table.status) own = own
not_usage (on_tables table.list) own = own
not_usage (on_tables (table.import_file name)) own = own
not_usage (rehearse steps) own = own

pub files_not_past : (command : FileCommand) → IsOfCommand (on_files command) SessionTooLong → ⊥
files_not_past (compile name) own = own
files_not_past (compile_set name) own = own
files_not_past (dump name) own = own
files_not_past (assess kind name code) own = own

pub tables_not_past : (command : TableCommand) → IsOfCommand (on_tables command) SessionTooLong → ⊥
tables_not_past (table.edit line) own = own
tables_not_past table.status own = own
tables_not_past table.list own = own
tables_not_past (table.import_file name) own = own

-- and none but a session is told that its input failed

pub files_not_read : (command : FileCommand) → IsOfCommand (on_files command) ReadFault → ⊥
files_not_read (compile name) own = own
files_not_read (compile_set name) own = own
files_not_read (dump name) own = own
files_not_read (assess kind name code) own = own

pub tables_not_read : (command : TableCommand) → IsOfCommand (on_tables command) ReadFault → ⊥
tables_not_read (table.edit line) own = own
tables_not_read table.status own = own
tables_not_read table.list own = own
tables_not_read (table.import_file name) own = own

-- which devices a command asks, by the failure that it returns

pub files_ask_keeper : (answer : Result Said Halt) (files : Option (List File)) (moments : Option (List ℕ)) (rows : Told) (facts : Option (List ℕ)) (command : FileCommand) (ended : Status) → FilesAnswer files moments rows facts command answer
    → answer ≡ Err halt.KeeperFault → MayHide KeeperFault ended → AsksKeeper (on_files command) ended
files_ask_keeper answer files moments rows facts (compile name) ended h is hidden = absurd (subst (FilesAnswer files moments rows facts (compile name)) is h)
files_ask_keeper answer files moments rows facts (compile_set name) ended h is hidden = absurd (subst (FilesAnswer files moments rows facts (compile_set name)) is h)
files_ask_keeper answer files moments rows facts (dump name) ended h is hidden = absurd (subst (FilesAnswer files moments rows facts (dump name)) is h)
files_ask_keeper answer files moments rows facts (assess kind name code) ended h is hidden = hidden

pub files_ask_clock : (answer : Result Said Halt) (files : Option (List File)) (moments : Option (List ℕ)) (rows : Told) (facts : Option (List ℕ)) (command : FileCommand) → FilesAnswer files moments rows facts command answer → answer ≡ Err (halt.Stop stop.ClockFault) → AsksClock (on_files command)
files_ask_clock answer files moments rows facts (compile name) h is = absurd (subst (FilesAnswer files moments rows facts (compile name)) is h)
files_ask_clock answer files moments rows facts (compile_set name) h is = absurd (subst (FilesAnswer files moments rows facts (compile_set name)) is h)
files_ask_clock answer files moments rows facts (dump name) h is = absurd (subst (FilesAnswer files moments rows facts (dump name)) is h)
files_ask_clock answer files moments rows facts (assess kind name code) h is = tt

import_asks : (command : TableCommand) → IsImport command → AsksShelf None (on_tables command)
import_asks (table.edit line) is = is
import_asks table.status is = is
import_asks table.list is = is
import_asks (table.import_file name) is = tt

table_halts : (files : Option (List File)) (rows : Told) (kept : Kept) (command : TableCommand) (answer : Result Said Halt) (why : Halt) → TablesAnswer files rows kept command answer → answer ≡ Err why → TablesHalt files rows command why
table_halts files rows kept command answer why h is = subst (λ a. IfErr a (λ w. TablesHalt files rows command w)) is h.halts

pub tables_ask_shelf : (files : Option (List File)) (rows : Told) (kept : Kept) (command : TableCommand) (answer : Result Said Halt) → TablesAnswer files rows kept command answer → answer ≡ Err (halt.Stop stop.ShelfFault) → AsksShelf None (on_tables command)
tables_ask_shelf files rows kept command answer h is = import_asks command (table_halts files rows kept command answer (halt.Stop stop.ShelfFault) h is).0

pub tables_ask_no_clock : (files : Option (List File)) (rows : Told) (kept : Kept) (command : TableCommand) (answer : Result Said Halt) → TablesAnswer files rows kept command answer → answer ≡ Err (halt.Stop stop.ClockFault) → ⊥
tables_ask_no_clock files rows kept command answer h is = table_halts files rows kept command answer (halt.Stop stop.ClockFault) h is

pub edits_ask_keeper : (command : TableCommand) (ended : Status) → MakesEdits command → AsksKeeper (on_tables command) ended
edits_ask_keeper (table.edit line) ended makes = tt
edits_ask_keeper table.status ended makes = absurd makes
edits_ask_keeper table.list ended makes = absurd makes
edits_ask_keeper (table.import_file name) ended makes = tt

pub load_asks_keeper : (command : TableCommand) (ended : Status) → MayHide KeeperFault ended → AsksKeeper (on_tables command) ended
load_asks_keeper (table.edit line) ended hidden = tt
load_asks_keeper table.status ended hidden = hidden
load_asks_keeper table.list ended hidden = hidden
load_asks_keeper (table.import_file name) ended hidden = tt

pub asks_whichever : (facts : Option (List ℕ)) (command : TableCommand) → AsksShelf None (on_tables command) → AsksShelf facts (on_tables command)
asks_whichever facts (table.edit line) asks = asks
asks_whichever facts table.status asks = asks
asks_whichever facts table.list asks = asks
asks_whichever facts (table.import_file name) asks = asks

pub tables_not_clock : (command : TableCommand) → IsOfCommand (on_tables command) ClockFault → ⊥
tables_not_clock (table.edit line) own = own
tables_not_clock table.status own = own
tables_not_clock table.list own = own
tables_not_clock (table.import_file name) own = own

-- a command on files that doesn't ask the keeper or the clock leaves what they tell
pub leaves_keeper : (command : FileCommand) (told now : Told) (moments next : Option (List ℕ)) → LeavesAlone command told now moments next → (LoadsTables (on_files command) → ⊥) → now ≡ told
leaves_keeper (compile name) told now moments next leaves none = leaves.0
leaves_keeper (compile_set name) told now moments next leaves none = leaves.0
leaves_keeper (dump name) told now moments next leaves none = leaves.0
leaves_keeper (assess kind name code) told now moments next leaves none = absurd (none tt)

pub leaves_clock : (command : FileCommand) (told now : Told) (moments next : Option (List ℕ)) → LeavesAlone command told now moments next → (AsksClock (on_files command) → ⊥) → next ≡ moments
leaves_clock (compile name) told now moments next leaves none = leaves.1
leaves_clock (compile_set name) told now moments next leaves none = leaves.1
leaves_clock (dump name) told now moments next leaves none = leaves.1
leaves_clock (assess kind name code) told now moments next leaves none = absurd (none tt)
