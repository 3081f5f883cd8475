-- What comes of a command, over a desk that was opened or without one.
use Rattle.std.proofs.Common.{◌≡◌, ◌≢◌, ◌⊎◌, ℕ, List, [], Bool, true, false, Option, None, Some, Result, Ok, Err, IfOk, IfErr, refl, sym, ◌∙◌, ap, subst, inl, inr}
use Rattle.std.specs.Prelude.{IsSome, OnErr}
use Rattle.gk_io.specs.Shelf.{File}
use Rattle.policy_model.specs.Rules.{Kind}
use Rattle.policy_model.specs.Tables.{Tables}
use Rattle.policy_model.specs.History.{Event, Opening, tables_of}
use Rattle.policy_keeper.specs.Told.{Told, Stays}
use Rattle.policy_keeper.specs.Mirror.{Mirrors}
use Rattle.desk_state.specs.declared.desk.Desk.{Desk}
use Rattle.desk_state.specs.Stands.{tables, Stands}
use Rattle.desk_state.specs.Failures.{Kept, kept_by, Shows}
use Rattle.run_status.specs.declared.said.Said as code_said
use Rattle.run_status.specs.declared.stop.Stop as code_stop
use Rattle.run_status.specs.declared.stop.Stop.TheVariants.{ShelfFault as shelf_fault, ClockFault as clock_fault, OutOfMemory as out_of_memory}
use Rattle.run_status.specs.declared.status.Status.{Status}
use Rattle.run_status.specs.declared.status.Status.TheVariants.{Fine, Denied, Usage, ReadFault, WriteFault, ShelfFault, ClockFault, KeeperFault, FileMissing, FileTooLong, BadFacts, BadStore, Refused, SessionTooLong, OutOfMemory}
use Rattle.run_status.specs.Said.{IsSpoken}
use Rattle.table_commands.specs.Replies.{is_refusal, refused_when}
use Rattle.std.specs.List.{list_any}
use Rattle.run_status.specs.Files.{SaysWithoutFile}
use Rattle.table_commands.specs.declared.limits.TheConstants.{MOST_IMPORT_BYTES}
use Rattle.table_commands.specs.EditSays.{SaysEdit}
use Rattle.table_commands.specs.ImportSays.{IsRefused, IsDone, Imports, SaysImport}
use Rattle.file_assessment.specs.Assessing.{HasFiles}
use Rattle.desk_opening.specs.declared.unopened.Unopened.{Unopened}
use Rattle.desk_opening.specs.declared.unopened.Unopened.TheVariants as unopened
use Rattle.desk_opening.specs.Opens.{IsOpening, IsUnopened, SaysUnopened}
use Rattle.desk_opening.specs.Laws.{UnopenedIsSpoken}
use Rattle.command_words.specs.Table.{FileCommand, TableCommand, assess}
use Rattle.command_words.specs.Table as table
use Rattle.run_commands.specs.declared.halt.Halt.{Halt}
use Rattle.run_commands.specs.declared.halt.Halt.TheVariants as halt
use Rattle.run_commands.specs.Halts.{IsUnsaid, IsHalted, IsStarved}
use Rattle.run_commands.specs.Spoken.{IsUttered}
use Rattle.run_commands.specs.Says.{Does, DeskSays, FilesSay, TableSays, TablesSay}
use Rattle.run_commands.specs.Answers.{HasDesk, IsOfShelf, FilesHalt, FilesAnswer, TablesHalt, TablesAnswer, MakesNone}
use Rattle.run_commands.specs.Over.{OverHalts, OverDesk}
use Rattle.run_commands.proofs.OneStatus.{nothing_told, not_bad}

-- what is so of a result is so of another in whose place it holds
pub map_ok : {T E : Type 0} (P Q : T → Type 0) (r : Result T E) → IfOk r P → ((x : T) → P x → Q x) → IfOk r Q
map_ok P Q (Ok x) h f = f x h
map_ok P Q (Err why) h f = tt

pub map_err : {T E : Type 0} (P Q : E → Type 0) (r : Result T E) → IfErr r P → ((x : E) → P x → Q x) → IfErr r Q
map_err P Q (Ok x) h f = tt
map_err P Q (Err why) h f = f why h

-- where a result is a fault
pub err_left : {T E : Type 0} (P Q : Type 0) (r : Result T E) → OnErr r P → (P → Q) → IfErr r (λ why. Q)
err_left P Q (Ok x) h f = tt
err_left P Q (Err why) h f = f h

pub stays_same : (told : Told) → Stays told told
stays_same None = tt
stays_same (Some raw) = refl

-- rows that mean the same tables as those that were told before are these
pub mirrors_stay : (old new : Told) (t : Tables) → Mirrors old t → Mirrors new t → (IsSome new → IsSome old) → Stays old new
mirrors_stay old None t a b telling = tt
mirrors_stay None (Some new) t a b telling = absurd (nothing_told (telling refl))
mirrors_stay (Some old) (Some new) t a b telling = ap Some (a.stored ∙ sym b.stored)

-- a command that asks for a file alone stops by the shelf or for want of memory
pub of_shelf : (said : Result code_said.Said code_stop.Stop) → said ≢ Err clock_fault → IfErr said (λ why. IsOfShelf (halt.Stop why))
of_shelf (Ok said) n = tt
of_shelf (Err shelf_fault) n = tt
of_shelf (Err clock_fault) n = absurd (n refl)
of_shelf (Err out_of_memory) n = tt

-- what comes of a command on files, from what it says or why it stopped
pub files_answer : (files : Option (List File)) (moments : Option (List ℕ)) (rows : Told) (facts : Option (List ℕ)) (command : FileCommand) (said : Result code_said.Said code_stop.Stop) (result : Result code_said.Said Halt)
    → IfOk said (λ s. FilesSay files moments rows facts command s.status s.text) → IfErr said (λ why. FilesHalt files rows facts command (halt.Stop why)) → IsHalted said result → FilesAnswer files moments rows facts command result
files_answer files moments rows facts command (Ok s) result says halts is = subst (FilesAnswer files moments rows facts command) (sym is) says
files_answer files moments rows facts command (Err why) result says halts is = subst (FilesAnswer files moments rows facts command) (sym is) halts

pub halted_spoken : (said : Result code_said.Said code_stop.Stop) (result : Result code_said.Said Halt) → IfOk said (λ s. IsSpoken s.status) → IsHalted said result → IfOk result (λ s. IsSpoken s.status)
halted_spoken (Ok s) result spoken is = subst (λ r. IfOk r (λ (x : code_said.Said). IsSpoken x.status)) (sym is) spoken
halted_spoken (Err why) result spoken is = subst (λ r. IfOk r (λ (x : code_said.Said). IsSpoken x.status)) (sym is) tt

module _ (files : Option (List File)) (moments : Option (List ℕ)) (rows : Told) (facts : Option (List ℕ)) (kind : Kind) (name : List ℕ) (code : Option (List ℕ)) where
  -- what comes of an assessment over a desk
  pub assess_over : (o : Opening) (result : Result code_said.Said Halt) → IsOpening files facts rows o → IfOk result (λ said. FilesSay files moments rows facts (assess kind name code) said.status said.text)
      → (result ≡ Err (halt.Stop clock_fault) → HasFiles files name code) → result ≢ Err halt.KeeperFault → FilesAnswer files moments rows facts (assess kind name code) result
  assess_over o (Ok said) opening says reached apart = says
  assess_over o (Err (halt.Stop shelf_fault)) opening says reached apart = inr (o, opening)
  assess_over o (Err (halt.Stop clock_fault)) opening says reached apart = ((o, opening), reached refl)
  assess_over o (Err (halt.Stop out_of_memory)) opening says reached apart = tt
  assess_over o (Err halt.KeeperFault) opening says reached apart = absurd (apart refl)

  -- and without one
  pub assess_unopened : (why : Unopened) (result : Result code_said.Said Halt) → IsUnopened files facts rows why → IsUnsaid why result → FilesAnswer files moments rows facts (assess kind name code) result
  assess_unopened (unopened.Said said) result h is = subst (FilesAnswer files moments rows facts (assess kind name code)) (sym is) (inl h)
  assess_unopened (unopened.Stop shelf_fault) result h is = subst (FilesAnswer files moments rows facts (assess kind name code)) (sym is) (inl h)
  assess_unopened (unopened.Stop clock_fault) result h is = absurd h
  assess_unopened (unopened.Stop out_of_memory) result h is = subst (FilesAnswer files moments rows facts (assess kind name code)) (sym is) tt
  assess_unopened unopened.KeeperFault result h is = subst (FilesAnswer files moments rows facts (assess kind name code)) (sym is) h

-- what an assessment of a desk that begins at o says is said over a desk
pub assess_says : (files : Option (List File)) (facts : Option (List ℕ)) (rows : Told) (Says : Opening → Status → List ℕ → Type 0) (o : Opening) (r : Result code_said.Said Halt)
    → IsOpening files facts rows o → IfOk r (λ said. Says o said.status said.text) → IfOk r (λ said. DeskSays files facts rows Says said.status said.text)
assess_says files facts rows Says o r opening h =
    map_ok (λ (said : code_said.Said). Says o said.status said.text) (λ said. DeskSays files facts rows Says said.status said.text) r h (λ said says. inr (o, opening, says))

-- what is said without a desk is said with a status with which something may be said
pub unopened_spoken : (files : Option (List File)) (facts : Option (List ℕ)) (after : Told) → UnopenedIsSpoken → (why : Unopened) (result : Result code_said.Said Halt) → IsUnopened files facts after why → IsUnsaid why result → IfOk result (λ said. IsSpoken said.status)
unopened_spoken files facts after spoken (unopened.Said said) result h is = subst (λ r. IfOk r (λ (x : code_said.Said). IsSpoken x.status)) (sym is) (spoken files facts after said.status said.text h)
unopened_spoken files facts after spoken (unopened.Stop why) result h is = subst (λ r. IfOk r (λ (x : code_said.Said). IsSpoken x.status)) (sym is) tt
unopened_spoken files facts after spoken unopened.KeeperFault result h is = subst (λ r. IfOk r (λ (x : code_said.Said). IsSpoken x.status)) (sym is) tt

-- a keeper that has the desk's tables has those after what happened
pub does : (kept : Kept) (o : Opening) (desk : Desk) (Says : List Event → Type 0) → Mirrors kept.told (tables desk) → ((after : List Event) × Says after × Stands desk o after × Shows [] after kept.before kept.counted) → Does kept Says o
does kept o desk Says mirrors h = record { after = h.0; says = h.1; mirrors = subst (Mirrors kept.told) h.2.tables_are mirrors; shows = h.3 }

-- a desk that was left where it stood has its tables, and the keeper its rows
pub left_so : (old new : Told) (o : Opening) (before after : Desk) → Mirrors old (tables before) → Mirrors new (tables after) → Stands before o [] → Stands after o [] → (IsSome new → IsSome old) → Stays old new
left_so old new o before after a b stood stands telling =
    mirrors_stay old new (tables_of o []) (subst (Mirrors old) stood.tables_are a) (subst (Mirrors new) stands.tables_are b) telling

over_halts : (files : Option (List File)) (rows : Told) (command : TableCommand) (o : Opening) → IsOpening files None rows o → (why : Halt) → OverHalts command why → TablesHalt files rows command why
over_halts files rows command o opening (halt.Stop shelf_fault) h = (h, (o, opening))
over_halts files rows command o opening (halt.Stop clock_fault) h = absurd h
over_halts files rows command o opening (halt.Stop out_of_memory) h = tt
over_halts files rows command o opening halt.KeeperFault h = absurd h

-- what comes of a command on the rules over the desk that was opened for it
pub tables_over : (files other : Option (List File)) (rows told : Told) (n m k : ℕ) (command : TableCommand) (o : Opening) (answer : Result code_said.Said Halt) → other ≡ files → m ≡ n
    → IsOpening files None rows o → OverDesk other rows (kept_by told m k) command o answer → TablesAnswer files rows (kept_by told n k) command answer
tables_over files other rows told n m k command o answer same equal opening h =
    let over : OverDesk files rows (kept_by told n k) command o answer =
    subst (λ f. OverDesk f rows (kept_by told n k) command o answer) same (subst (λ (x : ℕ). OverDesk other rows (kept_by told x k) command o answer) equal h) in
    record {
      says = assess_says files None rows (TableSays files (kept_by told n k) command) o answer opening over.says;
      halts = map_err (λ why. OverHalts command why) (λ why. TablesHalt files rows command why) answer over.halts (λ why halts. over_halts files rows command o opening why halts);
      unmade = over.unmade;
    }

nothing_named : IsSome {T = List ℕ} None → ⊥
nothing_named h = (cc)

-- and of one that has no desk: the keeper's rows stay
pub tables_unopened : (files : Option (List File)) (told : Told) (n k : ℕ) (command : TableCommand) (why : Unopened) (result : Result code_said.Said Halt) → IsUnopened files None told why → IsUnsaid why result → TablesAnswer files told (kept_by told n k) command result
tables_unopened files told n k command (unopened.Said said) result h is =
    subst (TablesAnswer files told (kept_by told n k) command) (sym is) (record { says = inl h; halts = tt; unmade = λ made. stays_same told })
tables_unopened files told n k command (unopened.Stop shelf_fault) result h is = absurd (nothing_named h)
tables_unopened files told n k command (unopened.Stop clock_fault) result h is = absurd h
tables_unopened files told n k command (unopened.Stop out_of_memory) result h is =
    subst (TablesAnswer files told (kept_by told n k) command) (sym is) (record { says = tt; halts = tt; unmade = λ made. stays_same told })
tables_unopened files told n k command unopened.KeeperFault result h is =
    subst (TablesAnswer files told (kept_by told n k) command) (sym is) (record { says = tt; halts = tt; unmade = λ made. stays_same told })

-- what an edit or an import says over a desk isn't that the store is bad, so that where it made none nothing is said
pub unmade : (files : Option (List File)) (rows : Told) (kept : Kept) (command : TableCommand) (o : Opening) (answer : Result code_said.Said Halt)
    → IfOk answer (λ said. TableSays files kept command o said.status said.text) → IfErr answer (λ why. Stays rows kept.told) → IfOk answer (λ said. said.status ≡ BadStore) → Stays rows kept.told
unmade files rows kept command o (Ok said) says stays bad = absurd (not_bad files kept command o said.text (subst (λ status. TableSays files kept command o status said.text) bad says))
unmade files rows kept command o (Err why) says stays bad = stays

no_edit_made : (line : List ℕ) (answer : Result code_said.Said Halt) → MakesNone (table.edit line) answer → IfOk answer (λ said. said.status ≡ BadStore)
no_edit_made line (Ok said) none = none
no_edit_made line (Err why) none = tt

no_import_made : (name : List ℕ) (answer : Result code_said.Said Halt) → MakesNone (table.import_file name) answer → IfOk answer (λ said. said.status ≡ BadStore)
no_import_made name (Ok said) none = none
no_import_made name (Err why) none = tt

-- what comes of an edit
pub edit_over : (files : Option (List File)) (rows : Told) (kept : Kept) (line : List ℕ) (o : Opening) (answer : Result code_said.Said Halt) → (IsSome kept.told → IsSome rows)
    → IfOk answer (λ said. TableSays files kept (table.edit line) o said.status said.text) → IfErr answer (λ why. why ≡ halt.Stop out_of_memory) → IfErr answer (λ why. Stays rows kept.told) → OverDesk files rows kept (table.edit line) o answer
edit_over files rows kept line o answer telling says halts stays = record {
  telling = telling;
  says = says;
  halts = map_err (λ why. why ≡ halt.Stop out_of_memory) (λ why. OverHalts (table.edit line) why) answer halts (λ why is. subst (OverHalts (table.edit line)) (sym is) tt);
  unmade = λ none. unmade files rows kept (table.edit line) o answer says stays (no_edit_made line answer none);
}

import_halts : (name : List ℕ) (said : Result code_said.Said code_stop.Stop) (result : Result code_said.Said Halt) → said ≢ Err clock_fault → IsHalted said result → IfErr result (λ why. OverHalts (table.import_file name) why)
import_halts name (Ok s) result n is = subst (λ r. IfErr r (λ why. OverHalts (table.import_file name) why)) (sym is) tt
import_halts name (Err shelf_fault) result n is = subst (λ r. IfErr r (λ why. OverHalts (table.import_file name) why)) (sym is) tt
import_halts name (Err clock_fault) result n is = absurd (n refl)
import_halts name (Err out_of_memory) result n is = subst (λ r. IfErr r (λ why. OverHalts (table.import_file name) why)) (sym is) tt

-- and of an import
pub import_over : (files : Option (List File)) (rows : Told) (kept : Kept) (name : List ℕ) (o : Opening) (said : Result code_said.Said code_stop.Stop) (result : Result code_said.Said Halt) → IsHalted said result → (IsSome kept.told → IsSome rows)
    → IfOk result (λ s. TableSays files kept (table.import_file name) o s.status s.text) → said ≢ Err clock_fault → IfErr result (λ why. Stays rows kept.told) → OverDesk files rows kept (table.import_file name) o result
import_over files rows kept name o said result is telling says apart stays = record {
  telling = telling;
  says = says;
  halts = import_halts name said result apart is;
  unmade = λ none. unmade files rows kept (table.import_file name) o result says stays (no_import_made name result none);
}

-- what holds of what a command says holds of what is returned
pub halted_ok : (P : code_said.Said → Type 0) (said : Result code_said.Said code_stop.Stop) (result : Result code_said.Said Halt) → IsHalted said result → IfOk said P → IfOk result P
halted_ok P (Ok s) result is h = subst (λ r. IfOk r P) (sym is) h
halted_ok P (Err why) result is h = subst (λ r. IfOk r P) (sym is) tt

pub halted_err : (P : Type 0) (said : Result code_said.Said code_stop.Stop) (result : Result code_said.Said Halt) → IsHalted said result → IfErr said (λ why. P) → IfErr result (λ why. P)
halted_err P (Ok s) result is h = subst (λ r. IfErr r (λ why. P)) (sym is) tt
halted_err P (Err why) result is h = subst (λ r. IfErr r (λ why. P)) (sym is) h

-- what comes of the status or the list, which ask no keeper
pub look_over : (files : Option (List File)) (told : Told) (n k : ℕ) (command : TableCommand) (o : Opening) (answer : Result code_said.Said Halt)
    → IfOk answer (λ said. TableSays files (kept_by told n k) command o said.status said.text) → IfErr answer (λ why. why ≡ halt.Stop out_of_memory) → OverDesk files told (kept_by told n k) command o answer
look_over files told n k command o answer says halts = record {
  telling = λ t. t;
  says = says;
  halts = map_err (λ why. why ≡ halt.Stop out_of_memory) (λ why. OverHalts command why) answer halts (λ why is. subst (OverHalts command) (sym is) tt);
  unmade = λ none. stays_same told;
}

uttered : (status : Status) → IsSpoken status → IsUttered status
uttered Fine spoken = tt
uttered Denied spoken = tt
uttered Usage spoken = absurd spoken
uttered ReadFault spoken = absurd spoken
uttered WriteFault spoken = absurd spoken
uttered ShelfFault spoken = absurd spoken
uttered ClockFault spoken = absurd spoken
uttered KeeperFault spoken = absurd spoken
uttered FileMissing spoken = tt
uttered FileTooLong spoken = tt
uttered BadFacts spoken = tt
uttered BadStore spoken = tt
uttered Refused spoken = tt
uttered SessionTooLong spoken = absurd spoken
uttered OutOfMemory spoken = absurd spoken

pub spoken_uttered : {E : Type 0} (r : Result code_said.Said E) → IfOk r (λ said. IsSpoken said.status) → IfOk r (λ said. IsUttered said.status)
spoken_uttered r h = map_ok (λ (said : code_said.Said). IsSpoken said.status) (λ said. IsUttered said.status) r h (λ said spoken. uttered said.status spoken)

-- a reply's status may be said
pub when_uttered : (refused : Bool) → IsUttered (refused_when refused)
when_uttered true = tt
when_uttered false = tt

pub reply_uttered : (o : Opening) (line : List ℕ) (status : Status) (text : List ℕ) (after : List Event) → SaysEdit o [] line status text after → IsUttered status
reply_uttered o line status text after is = subst IsUttered (sym is.says.status_is) (when_uttered (is_refusal is.says.reply))

without_uttered : (files : Option (List File)) (name : List ℕ) (limit : ℕ) (status : Status) (text : List ℕ) → SaysWithoutFile files name limit status text → IsUttered status
without_uttered files name limit Fine text h = absurd h
without_uttered files name limit Denied text h = absurd h
without_uttered files name limit Usage text h = absurd h
without_uttered files name limit ReadFault text h = absurd h
without_uttered files name limit WriteFault text h = absurd h
without_uttered files name limit ShelfFault text h = absurd h
without_uttered files name limit ClockFault text h = absurd h
without_uttered files name limit KeeperFault text h = absurd h
without_uttered files name limit FileMissing text h = tt
without_uttered files name limit FileTooLong text h = tt
without_uttered files name limit BadFacts text h = absurd h
without_uttered files name limit BadStore text h = absurd h
without_uttered files name limit Refused text h = absurd h
without_uttered files name limit SessionTooLong text h = absurd h
without_uttered files name limit OutOfMemory text h = absurd h

replied_uttered : (o : Opening) (bytes : List ℕ) (status : Status) (text : List ℕ) (after : List Event) → IsRefused [] bytes status text after ⊎ IsDone o [] bytes status text after → IsUttered status
replied_uttered o bytes status text after (inl refused) = subst IsUttered (sym refused.status_is) tt
replied_uttered o bytes status text after (inr done) = subst IsUttered (sym done.status_is) (when_uttered (list_any is_refusal done.replies))

imports_uttered : (o : Opening) (after : List Event) (bytes : List ℕ) (status : Status) (text : List ℕ) → Imports o [] after bytes status text → IsUttered status
imports_uttered o after bytes Fine text h = replied_uttered o bytes Fine text after h
imports_uttered o after bytes Denied text h = replied_uttered o bytes Denied text after h
imports_uttered o after bytes Usage text h = replied_uttered o bytes Usage text after h
imports_uttered o after bytes ReadFault text h = replied_uttered o bytes ReadFault text after h
imports_uttered o after bytes WriteFault text h = replied_uttered o bytes WriteFault text after h
imports_uttered o after bytes ShelfFault text h = replied_uttered o bytes ShelfFault text after h
imports_uttered o after bytes ClockFault text h = replied_uttered o bytes ClockFault text after h
imports_uttered o after bytes KeeperFault text h = replied_uttered o bytes KeeperFault text after h
imports_uttered o after bytes FileMissing text h = replied_uttered o bytes FileMissing text after h
imports_uttered o after bytes FileTooLong text h = replied_uttered o bytes FileTooLong text after h
imports_uttered o after bytes BadFacts text h = replied_uttered o bytes BadFacts text after h
imports_uttered o after bytes BadStore text h = replied_uttered o bytes BadStore text after h
imports_uttered o after bytes Refused text h = replied_uttered o bytes Refused text after h
imports_uttered o after bytes SessionTooLong text h = replied_uttered o bytes SessionTooLong text after h
imports_uttered o after bytes OutOfMemory text h = tt

pub import_uttered : (o : Opening) (files : Option (List File)) (name : List ℕ) (status : Status) (text : List ℕ) (after : List Event) → SaysImport o [] files name status text after → IsUttered status
import_uttered o files name status text after (inl h) = without_uttered files name MOST_IMPORT_BYTES status text h.says
import_uttered o files name status text after (inr h) = imports_uttered o after h.bytes status text h.says

-- what holds of what a command says holds of what is returned, which else finds no memory
pub starved_ok : {E : Type 0} (P : code_said.Said → Type 0) (said : Result code_said.Said E) (result : Result code_said.Said Halt) → IsStarved said result → IfOk said P → IfOk result P
starved_ok P (Ok s) result is h = subst (λ r. IfOk r P) (sym is) h
starved_ok P (Err why) result is h = subst (λ r. IfOk r P) (sym is) tt

pub starved_err : {E : Type 0} (P : Type 0) (said : Result code_said.Said E) (result : Result code_said.Said Halt) → IsStarved said result → IfErr said (λ why. P) → IfErr result (λ why. P)
starved_err P (Ok s) result is h = subst (λ r. IfErr r (λ why. P)) (sym is) tt
starved_err P (Err why) result is h = subst (λ r. IfErr r (λ why. P)) (sym is) h

pub starved_halts : {E : Type 0} (said : Result code_said.Said E) (result : Result code_said.Said Halt) → IsStarved said result → IfErr result (λ why. why ≡ halt.Stop out_of_memory)
starved_halts (Ok s) result is = subst (λ r. IfErr r (λ why. why ≡ halt.Stop out_of_memory)) (sym is) tt
starved_halts (Err why) result is = subst (λ r. IfErr r (λ w. w ≡ halt.Stop out_of_memory)) (sym is) refl
