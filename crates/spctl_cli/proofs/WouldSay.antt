-- When a command on files has something to say.
use Rattle.std.proofs.Common.{◌≡◌, ◌≢◌, ◌↔◌, ℕ, ◌<◌, ◌≤◌, ◌⊎◌, Bool, true, false, List, [], Option, None, Some, Result, Ok, Err, IfOk, length, inl, inr, arith, refl, sym, ap, ◌∙◌, subst}
use Rattle.std.specs.Prelude.{IsSome}
use Rattle.gk_io.specs.Shelf.{File, file_named}
use Rattle.policy_model.specs.Rules.{Kind}
use Rattle.policy_model.specs.History.{Event, Opening}
use Rattle.store_model.specs.Raw.{RawTables}
use Rattle.policy_keeper.specs.Told.{Told}
use Rattle.req_grammar.specs.declared.limits.TheConstants.{MOST_TEXT_BYTES}
use Rattle.req_blob.specs.declared.limits.TheConstants.{MOST_BYTES}
use Rattle.run_status.specs.declared.said.Said.{Said}
use Rattle.run_status.specs.declared.stop.Stop.TheVariants as stop
use Rattle.run_status.specs.declared.status.Status.{Status}
use Rattle.run_status.specs.declared.status.Status.TheVariants.{Fine, Denied, Usage, ReadFault, WriteFault, ShelfFault, ClockFault, KeeperFault, FileMissing, FileTooLong, BadFacts, BadStore, Refused, SessionTooLong, OutOfMemory}
use Rattle.run_status.specs.Files.{SaysWithoutFile, SaysOfFile, SaysOnFile}
use Rattle.language_commands.specs.Taken.{TakenOrRefused}
use Rattle.language_commands.specs.Compiling.{Compiles}
use Rattle.language_commands.specs.CompilingSets.{CompilesSet}
use Rattle.language_commands.specs.Dumping.{Dumps, DumpsBy, begins_as_set}
use Rattle.assess_command.specs.declared.line.Assessed.{Assessed}
use Rattle.assess_command.specs.declared.line.Assessed.TheVariants as assessed
use Rattle.file_assessment.specs.declared.limits.TheConstants.{MOST_SIGNATURE_BYTES, MOST_CODE_BYTES}
use Rattle.file_assessment.specs.Assessing.{SaysByClock, SaysWithCode, SaysAssess, HasFile, status_of}
use Rattle.file_assessment.specs.Assessing as assessing
use Rattle.desk_opening.specs.Facts.{HasFacts, SaysOfFacts}
use Rattle.desk_opening.specs.Opens.{IsOpening, SaysOfStore, SaysUnopened}
use Rattle.desk_opening.specs.Laws.{IsDeskless, OpenedIsNotUnopened, ReadIsNotRefused, RefusedHasOneStatus}
use Rattle.command_words.specs.Table.{FileCommand, compile, compile_set, dump, assess}
use Rattle.run_commands.specs.declared.halt.Halt.{Halt}
use Rattle.run_commands.specs.declared.halt.Halt.TheVariants as halt
use Rattle.run_commands.specs.Says.{DeskSays, FilesSay}
use Rattle.run_commands.specs.Answers.{HasDesk, IsOfShelf, FilesHalt, FilesAnswer}
use Rattle.run_commands.specs.Laws.{TellsRows, IsTimeless, FilesHaveOneStatus, TimelessStatusIsOne}
use Rattle.spctl_cli.specs.Causes.{IsAnswered, IsFetched, IsLoaded, IsUncut, IsUnfailed, ReachesStore, ReachesFiles, TellsFacts, IsWorked, HasFiles, HasDeskFor, WouldSay}
use Rattle.spctl_cli.specs.Conclusions.{Tally, SpokenEnd}
use Rattle.spctl_cli.specs.Statuses.{IsOfFile}
use Rattle.spctl_cli.proofs.Concluded.{answer_status, ended_is}
use Rattle.spctl_cli.proofs.Own.{on_file_own, taken_own, dump_own}
use Rattle.spctl_cli.proofs.Deskless.{nothing_told, facts_apart, unopened_facts, opening_facts, fetched_not_write}

same_bytes : (found : Option (List ℕ)) (xs ys : List ℕ) → found ≡ Some xs → found ≡ Some ys → xs ≡ ys
same_bytes found xs ys a b = (cc)

pub not_both : (found : Option (List ℕ)) (xs : List ℕ) → found ≡ None → found ≡ Some xs → ⊥
not_both found xs a b = (cc)

-- no file of that name, or one that is longer
abbrev pub IsWithout : List File → List ℕ → ℕ → Status → Type 0
IsWithout files name limit status =
    ((status ≡ FileMissing) × (file_named files name ≡ None)) ⊎ ((status ≡ FileTooLong) × ((bytes : List ℕ) × (file_named files name ≡ Some bytes) × (limit < length bytes)))

pub without : (files : List File) (name : List ℕ) (limit : ℕ) (status : Status) (text : List ℕ) → SaysWithoutFile (Some files) name limit status text → IsWithout files name limit status
without files name limit Fine text h = absurd h
without files name limit Denied text h = absurd h
without files name limit Usage text h = absurd h
without files name limit ReadFault text h = absurd h
without files name limit WriteFault text h = absurd h
without files name limit ShelfFault text h = absurd h
without files name limit ClockFault text h = absurd h
without files name limit KeeperFault text h = absurd h
without files name limit FileMissing text h = inl (refl, h.0)
without files name limit FileTooLong text h = inr (refl, h.0)
without files name limit BadFacts text h = absurd h
without files name limit BadStore text h = absurd h
without files name limit Refused text h = absurd h
without files name limit SessionTooLong text h = absurd h
without files name limit OutOfMemory text h = absurd h

-- a file within the limit is neither missing nor too long
pub there : (files : List File) (name : List ℕ) (limit : ℕ) (status : Status) (bytes : List ℕ) → IsWithout files name limit status → file_named files name ≡ Some bytes → length bytes ≤ limit → ⊥
there files name limit status bytes (inl missing) found short = not_both (file_named files name) bytes missing.1 found
there files name limit status bytes (inr long) found short =
    let same = ap length (same_bytes (file_named files name) long.1.0 bytes long.1.1 found) in
    omega (arith, same, short, long.1.2)

-- a command whose file is there does its work
works_there : (Work : List ℕ → Status → List ℕ → Type 0) (files : List File) (name : List ℕ) (limit : ℕ) (status : Status) (said : List ℕ) → ((bytes : List ℕ) → Work bytes status said → IsWorked status) → HasFile (Some files) name limit → SaysOnFile Work (Some files) name limit status said → IsWorked status
works_there Work files name limit status said done has (inl a) = absurd (there files name limit status has.0 (without files name limit status said a) has.1.0 has.1.1)
works_there Work files name limit status said done has (inr a) = done a.bytes a.says

-- what is taken or refused is worked
taken_or_refused : (Takes Refuses : List ℕ → Type 0) (status : Status) (said : List ℕ) → TakenOrRefused Takes Refuses status said → IsWorked status
taken_or_refused Takes Refuses Fine said h = tt
taken_or_refused Takes Refuses Denied said h = absurd h
taken_or_refused Takes Refuses Usage said h = absurd h
taken_or_refused Takes Refuses ReadFault said h = absurd h
taken_or_refused Takes Refuses WriteFault said h = absurd h
taken_or_refused Takes Refuses ShelfFault said h = absurd h
taken_or_refused Takes Refuses ClockFault said h = absurd h
taken_or_refused Takes Refuses KeeperFault said h = absurd h
taken_or_refused Takes Refuses FileMissing said h = absurd h
taken_or_refused Takes Refuses FileTooLong said h = absurd h
taken_or_refused Takes Refuses BadFacts said h = absurd h
taken_or_refused Takes Refuses BadStore said h = absurd h
taken_or_refused Takes Refuses Refused said h = tt
taken_or_refused Takes Refuses SessionTooLong said h = absurd h
taken_or_refused Takes Refuses OutOfMemory said h = absurd h

dump_works : (as_set : Bool) (bytes said : List ℕ) (status : Status) → DumpsBy as_set bytes status said → IsWorked status
dump_works true bytes said status h = taken_or_refused _ _ status said h
dump_works false bytes said status h = taken_or_refused _ _ status said h

assessed_works : (how : Assessed) → IsWorked (status_of how)
assessed_works assessed.Accepted = tt
assessed_works assessed.Rejected = tt
assessed_works assessed.Refused = tt

clock_works : (o : Opening) (h : List Event) (moments : Option (List ℕ)) (kind : Kind) (signature : List ℕ) (code : Option (List ℕ)) (status : Status) (said : List ℕ) → SaysByClock o h moments kind signature code status said → IsWorked status
clock_works o h moments kind signature code status said it = subst IsWorked (sym it.says.end_is) (assessed_works it.says.how)

-- an assessment whose files are there does its work, by whatever desk
assess_works : (o : Opening) (files : List File) (moments : Option (List ℕ)) (kind : Kind) (name : List ℕ) (code : Option (List ℕ)) (status : Status) (said : List ℕ) → assessing.HasFiles (Some files) name code → SaysAssess o [] (Some files) moments kind name code status said → IsWorked status
assess_works o files moments kind name None status said has says =
    works_there (SaysWithCode o [] (Some files) moments kind None) files name MOST_SIGNATURE_BYTES status said (λ signature h. clock_works o [] moments kind signature None status said h) has.0 says
assess_works o files moments kind name (Some code) status said has says =
    works_there (SaysWithCode o [] (Some files) moments kind (Some code)) files name MOST_SIGNATURE_BYTES status said
    (λ signature h. works_there (λ code. SaysByClock o [] moments kind signature (Some code)) files code MOST_CODE_BYTES status said (λ bytes h. clock_works o [] moments kind signature (Some bytes) status said h) has.1 h) has.0 says

module _ (apart : OpenedIsNotUnopened) (files : List File) (moments : Option (List ℕ)) (facts : Option (List ℕ)) where
  over_desk : (rows : Told) (kind : Kind) (name : List ℕ) (code : Option (List ℕ)) (status : Status) (said : List ℕ) → assessing.HasFiles (Some files) name code → IsSome rows → HasDesk (Some files) facts rows
      → DeskSays (Some files) facts rows (λ o. SaysAssess o [] (Some files) moments kind name code) status said → IsWorked status
  over_desk None kind name code status said has told desk says = absurd (nothing_told told)
  over_desk (Some raw) kind name code status said has told desk (inl says) = absurd (apart files facts raw desk.0 status said desk.1 says)
  over_desk (Some raw) kind name code status said has told desk (inr says) = assess_works says.0 files moments kind name code status said has says.2

  worked : (rows : Told) (command : FileCommand) (status : Status) (said : List ℕ) → HasFiles (Some files) command → TellsRows rows command → HasDeskFor (Some files) rows facts command → FilesSay (Some files) moments rows facts command status said → IsWorked status
  worked rows (compile name) status said has told desk says = works_there Compiles files name MOST_TEXT_BYTES status said (λ bytes h. taken_or_refused _ _ status said h) has says
  worked rows (compile_set name) status said has told desk says = works_there CompilesSet files name MOST_TEXT_BYTES status said (λ bytes h. taken_or_refused _ _ status said h) has says
  worked rows (dump name) status said has told desk says = works_there Dumps files name MOST_BYTES status said (λ bytes h. dump_works (begins_as_set bytes) bytes said status h) has says
  worked rows (assess kind name code) status said has told desk says = over_desk rows kind name code status said has told desk says

  worked_answer : (rows : Told) (command : FileCommand) (answer : Result Said Halt) → HasFiles (Some files) command → TellsRows rows command → HasDeskFor (Some files) rows facts command
      → FilesAnswer (Some files) moments rows facts command answer → IsUnfailed (answer_status answer) → IsWorked (answer_status answer) ⊎ (answer_status answer ≡ OutOfMemory)
  worked_answer rows command (Ok said) has told desk h clear = inl (worked rows command said.status said.text has told desk h)
  worked_answer rows command (Err (halt.Stop stop.ShelfFault)) has told desk h clear = absurd clear
  worked_answer rows command (Err (halt.Stop stop.ClockFault)) has told desk h clear = absurd clear
  worked_answer rows command (Err (halt.Stop stop.OutOfMemory)) has told desk h clear = inr refl
  worked_answer rows command (Err halt.KeeperFault) has told desk h clear = absurd clear

  -- a command whose files are there does its work, unless a device fails or memory runs out
  pub work_is_done : (rows : Told) (command : FileCommand) (tally : Tally) (left now written sent : Option (List ℕ)) (ended : Status) → HasFiles (Some files) command → TellsRows rows command → HasDeskFor (Some files) rows facts command
      → IsUnfailed ended → SpokenEnd (FilesAnswer (Some files) moments rows facts command) tally left now written sent ended → IsWorked ended ⊎ (ended ≡ OutOfMemory)
  work_is_done rows command tally left now written sent ended has told desk clear e =
      let is = ended_is e.answer written sent ended e.concludes (λ w. no_write (subst IsUnfailed w clear)) in
      subst (λ (s : Status). IsWorked s ⊎ (s ≡ OutOfMemory)) (sym is) (worked_answer rows command e.answer has told desk e.answers (subst IsUnfailed is clear))
    where
      no_write : IsUnfailed WriteFault → ⊥
      no_write h = h

-- what is said of the facts file comes wherever it is so
assess_facts : ReadIsNotRefused → RefusedHasOneStatus → (files : Option (List File)) (moments : Option (List ℕ)) (rows : Told) (facts : Option (List ℕ)) (kind : Kind) (name : List ℕ) (code : Option (List ℕ)) (answer : Result Said Halt) (status : Status) (text : List ℕ) → TellsFacts files facts
    → SaysOfFacts files facts status text → FilesAnswer files moments rows facts (assess kind name code) answer → IsFetched (answer_status answer) → answer_status answer ≡ status
assess_facts apart one files moments rows facts kind name code (Ok said) status text tells would (inl h) clear = unopened_facts apart one files rows facts status said.status text said.text tells would h
assess_facts apart one files moments rows facts kind name code (Ok said) status text tells would (inr h) clear = absurd (facts_apart apart files facts status text tells (opening_facts files facts rows h.0 h.1) would)
assess_facts apart one files moments rows facts kind name code (Err (halt.Stop stop.ShelfFault)) status text tells would h clear = absurd clear
assess_facts apart one files moments rows facts kind name code (Err (halt.Stop stop.ClockFault)) status text tells would h clear = absurd (facts_apart apart files facts status text tells (opening_facts files facts rows h.0.0 h.0.1) would)
assess_facts apart one files moments rows facts kind name code (Err (halt.Stop stop.OutOfMemory)) status text tells would h clear = absurd clear
assess_facts apart one files moments rows facts kind name code (Err halt.KeeperFault) status text tells would h clear = absurd (facts_apart apart files facts status text tells h would)

pub assessed_facts : ReadIsNotRefused → RefusedHasOneStatus → (files : Option (List File)) (moments : Option (List ℕ)) (rows : Told) (facts : Option (List ℕ)) (kind : Kind) (name : List ℕ) (code : Option (List ℕ)) (tally : Tally) (left now written sent : Option (List ℕ)) (ended status : Status) (text : List ℕ)
    → TellsFacts files facts → IsFetched ended → SaysOfFacts files facts status text → SpokenEnd (FilesAnswer files moments rows facts (assess kind name code)) tally left now written sent ended → ended ≡ status
assessed_facts apart one files moments rows facts kind name code tally left now written sent ended status text tells clear would e =
    let is = ended_is e.answer written sent ended e.concludes (fetched_not_write ended clear) in
    is ∙ assess_facts apart one files moments rows facts kind name code e.answer status text tells would e.answers (subst IsFetched is clear)

-- a status that comes at any time is no fault of a device
no_timeless : (Fault : Status) → (IsTimeless Fault → ⊥) → (status : Status) → IsTimeless status → Fault ≡ status → ⊥
no_timeless Fault none status timeless is = none (subst IsTimeless (sym is) timeless)

timeless_said : (files : Option (List File)) (moments : Option (List ℕ)) (rows : Told) (facts : Option (List ℕ)) (command : FileCommand) (answer : Result Said Halt) (status : Status) → IsTimeless status → FilesAnswer files moments rows facts command answer → answer_status answer ≡ status
    → (text : List ℕ) × FilesSay files moments rows facts command status text
timeless_said files moments rows facts command (Ok said) status timeless h is = (said.text, subst (λ s. FilesSay files moments rows facts command s said.text) is h)
timeless_said files moments rows facts command (Err (halt.Stop stop.ShelfFault)) status timeless h is = absurd (no_timeless ShelfFault (λ none. none) status timeless is)
timeless_said files moments rows facts command (Err (halt.Stop stop.ClockFault)) status timeless h is = absurd (no_timeless ClockFault (λ none. none) status timeless is)
timeless_said files moments rows facts command (Err (halt.Stop stop.OutOfMemory)) status timeless h is = absurd (no_timeless OutOfMemory (λ none. none) status timeless is)
timeless_said files moments rows facts command (Err halt.KeeperFault) status timeless h is = absurd (no_timeless KeeperFault (λ none. none) status timeless is)

-- what an assessment says over a desk isn't that the facts or the store are bad
abbrev IsAssessed : Status → Type 0
IsAssessed Fine = Unit {0}
IsAssessed Denied = Unit {0}
IsAssessed Refused = Unit {0}
IsAssessed FileMissing = Unit {0}
IsAssessed FileTooLong = Unit {0}
IsAssessed other = ⊥

without_assessed : (files : Option (List File)) (name : List ℕ) (limit : ℕ) (status : Status) (text : List ℕ) → SaysWithoutFile files name limit status text → IsAssessed status
without_assessed files name limit FileMissing text h = tt
without_assessed files name limit FileTooLong text h = tt
without_assessed files name limit other text h = absurd h

how_assessed : (how : Assessed) → IsAssessed (status_of how)
how_assessed assessed.Accepted = tt
how_assessed assessed.Rejected = tt
how_assessed assessed.Refused = tt

on_file_assessed : (Work : List ℕ → Status → List ℕ → Type 0) (files : Option (List File)) (name : List ℕ) (limit : ℕ) (status : Status) (text : List ℕ) → ((bytes : List ℕ) → Work bytes status text → IsAssessed status) → SaysOnFile Work files name limit status text → IsAssessed status
on_file_assessed Work files name limit status text work (inl h) = without_assessed files name limit status text h
on_file_assessed Work files name limit status text work (inr h) = work h.bytes h.says

clock_assessed : (o : Opening) (moments : Option (List ℕ)) (kind : Kind) (signature : List ℕ) (code : Option (List ℕ)) (status : Status) (said : List ℕ) → SaysByClock o [] moments kind signature code status said → IsAssessed status
clock_assessed o moments kind signature code status said it = subst IsAssessed (sym it.says.end_is) (how_assessed it.says.how)

says_assessed : (o : Opening) (files : Option (List File)) (moments : Option (List ℕ)) (kind : Kind) (name : List ℕ) (code : Option (List ℕ)) (status : Status) (said : List ℕ) → SaysAssess o [] files moments kind name code status said → IsAssessed status
says_assessed o files moments kind name None status said h =
    on_file_assessed (SaysWithCode o [] files moments kind None) files name MOST_SIGNATURE_BYTES status said (λ signature w. clock_assessed o moments kind signature None status said w) h
says_assessed o files moments kind name (Some code) status said h =
    on_file_assessed (SaysWithCode o [] files moments kind (Some code)) files name MOST_SIGNATURE_BYTES status said
    (λ signature w. on_file_assessed (λ bytes. SaysByClock o [] moments kind signature (Some bytes)) files code MOST_CODE_BYTES status said (λ bytes v. clock_assessed o moments kind signature (Some bytes) status said v) w) h

-- which statuses a failure may stand behind

nothing_named : IsSome {T = List ℕ} None → ⊥
nothing_named h = (cc)

reaches_shelf : (facts : Option (List ℕ)) (status : Status) → ReachesFiles facts status ShelfFault → (status ≡ BadStore) × (IsSome facts → ⊥)
reaches_shelf None BadStore h = (refl, nothing_named)
reaches_shelf (Some name) BadStore h = absurd h
reaches_shelf facts other h = absurd h

reaches_memory : (facts : Option (List ℕ)) (status : Status) → ReachesFiles facts status OutOfMemory → ⊥
reaches_memory None BadStore h = h
reaches_memory (Some name) BadStore h = h
reaches_memory facts other h = h

reaches_write : (facts : Option (List ℕ)) (status : Status) → ReachesFiles facts status WriteFault → ⊥
reaches_write None BadStore h = h
reaches_write (Some name) BadStore h = h
reaches_write facts other h = h

reaches_keeper : (facts : Option (List ℕ)) (status : Status) → ReachesFiles facts status KeeperFault → status ≡ BadFacts
reaches_keeper facts BadFacts h = refl
reaches_keeper facts other h = absurd h

reaches_clock : (facts : Option (List ℕ)) (status : Status) → ReachesFiles facts status ClockFault → IsDeskless status
reaches_clock facts BadFacts h = tt
reaches_clock facts BadStore h = tt
reaches_clock facts FileMissing h = tt
reaches_clock facts FileTooLong h = tt
reaches_clock facts other h = absurd h

deskless_or_worked : (status : Status) → IsDeskless status → IsWorked status → ⊥
deskless_or_worked FileMissing deskless work = work
deskless_or_worked FileTooLong deskless work = work
deskless_or_worked BadFacts deskless work = work
deskless_or_worked BadStore deskless work = work
deskless_or_worked other deskless work = deskless

tells_some : (files : List File) (facts : Option (List ℕ)) → TellsFacts (Some files) facts
tells_some files None = tt
tells_some files (Some name) = refl

store_not_facts : (rows : Told) (text : List ℕ) → SaysOfStore rows BadFacts text → ⊥
store_not_facts rows text h = h

not_bad_store : IsAssessed BadStore → ⊥
not_bad_store h = h

not_bad_facts : IsAssessed BadFacts → ⊥
not_bad_facts h = h

module _ (apart : OpenedIsNotUnopened) (read : ReadIsNotRefused) (files : List File) (moments : Option (List ℕ)) (raw : RawTables) (facts : Option (List ℕ)) (kind : Kind) (name : List ℕ) (code : Option (List ℕ)) where
  bad_store_apart : (text : List ℕ) → HasDesk (Some files) facts (Some raw) → FilesSay (Some files) moments (Some raw) facts (assess kind name code) BadStore text → ⊥
  bad_store_apart text desk (inl h) = apart files facts raw desk.0 BadStore text desk.1 h
  bad_store_apart text desk (inr h) = not_bad_store (says_assessed h.0 (Some files) moments kind name code BadStore text h.2)

  bad_facts_apart : (text : List ℕ) → HasFacts (Some files) facts → FilesSay (Some files) moments (Some raw) facts (assess kind name code) BadFacts text → ⊥
  bad_facts_apart text has (inl (inl h)) = facts_apart read (Some files) facts BadFacts text (tells_some files facts) has h
  bad_facts_apart text has (inl (inr h)) = store_not_facts (Some raw) text h.1
  bad_facts_apart text has (inr h) = not_bad_facts (says_assessed h.0 (Some files) moments kind name code BadFacts text h.2)

  named_or_desk : (IsSome facts → ⊥) → IsSome facts ⊎ HasDesk (Some files) facts (Some raw) → HasDesk (Some files) facts (Some raw)
  named_or_desk none (inl named) = absurd (none named)
  named_or_desk none (inr desk) = desk

  -- nothing would be said that stands before a failure of an assessment
  assess_halted : (why : Halt) (status : Status) (text : List ℕ) → FilesHalt (Some files) (Some raw) facts (assess kind name code) why → ReachesFiles facts status (answer_status (Err why)) → FilesSay (Some files) moments (Some raw) facts (assess kind name code) status text → ⊥
  assess_halted (halt.Stop stop.ShelfFault) status text h clear would =
      let bad = reaches_shelf facts status clear in
      bad_store_apart text (named_or_desk bad.1 h) (subst (λ s. FilesSay (Some files) moments (Some raw) facts (assess kind name code) s text) bad.0 would)
  assess_halted (halt.Stop stop.ClockFault) status text h clear would =
      deskless_or_worked status (reaches_clock facts status clear) (over_desk apart files moments facts (Some raw) kind name code status text h.1 refl h.0 would)
  assess_halted (halt.Stop stop.OutOfMemory) status text h clear would = reaches_memory facts status clear
  assess_halted halt.KeeperFault status text h clear would =
      bad_facts_apart text h (subst (λ s. FilesSay (Some files) moments (Some raw) facts (assess kind name code) s text) (reaches_keeper facts status clear) would)

of_file_not_bad : (status : Status) → IsOfFile status → status ≡ BadStore → ⊥
of_file_not_bad status own is = not_of_file (subst IsOfFile is own)
  where
    not_of_file : IsOfFile BadStore → ⊥
    not_of_file h = h

file_halted : (facts : Option (List ℕ)) (why : Halt) (status : Status) → IsOfFile status → IsOfShelf why → ReachesFiles facts status (answer_status (Err why)) → ⊥
file_halted facts (halt.Stop stop.ShelfFault) status own h clear = of_file_not_bad status own (reaches_shelf facts status clear).0
file_halted facts (halt.Stop stop.ClockFault) status own h clear = h
file_halted facts (halt.Stop stop.OutOfMemory) status own h clear = reaches_memory facts status clear
file_halted facts halt.KeeperFault status own h clear = h

module _ (apart : OpenedIsNotUnopened) (read : ReadIsNotRefused) (files : List File) (moments : Option (List ℕ)) (facts : Option (List ℕ)) where
  files_halted : (rows : Told) (command : FileCommand) (why : Halt) (status : Status) (text : List ℕ) → TellsRows rows command → FilesHalt (Some files) rows facts command why → ReachesFiles facts status (answer_status (Err why)) → FilesSay (Some files) moments rows facts command status text → ⊥
  files_halted rows (compile name) why status text told h clear would =
      file_halted facts why status (on_file_own Compiles (Some files) name MOST_TEXT_BYTES status text (λ bytes w. taken_own _ _ status text w) would) h clear
  files_halted rows (compile_set name) why status text told h clear would =
      file_halted facts why status (on_file_own CompilesSet (Some files) name MOST_TEXT_BYTES status text (λ bytes w. taken_own _ _ status text w) would) h clear
  files_halted rows (dump name) why status text told h clear would =
      file_halted facts why status (on_file_own Dumps (Some files) name MOST_BYTES status text (λ bytes w. dump_own (begins_as_set bytes) bytes text status w) would) h clear
  files_halted None (assess kind name code) why status text told h clear would = nothing_told told
  files_halted (Some raw) (assess kind name code) why status text told h clear would = assess_halted apart read files moments raw facts kind name code why status text h clear would

  timeless_comes : TimelessStatusIsOne → (rows : Told) (command : FileCommand) (answer : Result Said Halt) (status : Status) (text : List ℕ) → TellsRows rows command → IsTimeless status → FilesAnswer (Some files) moments rows facts command answer
      → ReachesFiles facts status (answer_status answer) → FilesSay (Some files) moments rows facts command status text → answer_status answer ≡ status
  timeless_comes one rows command (Ok said) status text told timeless h clear would = sym (one files moments rows facts command status said.status text said.text told timeless would h)
  timeless_comes one rows command (Err why) status text told timeless h clear would = absurd (files_halted rows command why status text told h clear would)

  -- a file is missing or too long, the facts or the store are bad, or the work is refused, exactly where that would be said
  pub timeless_exactly : TimelessStatusIsOne → (rows : Told) (command : FileCommand) (tally : Tally) (left now written sent : Option (List ℕ)) (ended status : Status) → TellsRows rows command → IsTimeless status → ReachesFiles facts status ended
      → SpokenEnd (FilesAnswer (Some files) moments rows facts command) tally left now written sent ended → ((ended ≡ status) ↔ WouldSay files moments rows facts command status)
  timeless_exactly one rows command tally left now written sent ended status told timeless clear e =
      let is = ended_is e.answer written sent ended e.concludes (λ w. reaches_write facts status (subst (ReachesFiles facts status) w clear)) in (
        λ same. timeless_said (Some files) moments rows facts command e.answer status timeless e.answers (sym is ∙ same),
        λ would. is ∙ timeless_comes one rows command e.answer status would.0 told timeless e.answers (subst (ReachesFiles facts status) is clear) would.1,
      )

uncut_said : (files : Option (List File)) (moments : Option (List ℕ)) (rows : Told) (facts : Option (List ℕ)) (command : FileCommand) (answer : Result Said Halt) → FilesAnswer files moments rows facts command answer → IsUncut (answer_status answer)
    → (text : List ℕ) × FilesSay files moments rows facts command (answer_status answer) text
uncut_said files moments rows facts command (Ok said) h clear = (said.text, h)
uncut_said files moments rows facts command (Err (halt.Stop stop.ShelfFault)) h clear = absurd clear
uncut_said files moments rows facts command (Err (halt.Stop stop.ClockFault)) h clear = absurd clear
uncut_said files moments rows facts command (Err (halt.Stop stop.OutOfMemory)) h clear = absurd clear
uncut_said files moments rows facts command (Err halt.KeeperFault) h clear = absurd clear

-- and so it is with every status, where the clock tells its moments
pub told_exactly : FilesHaveOneStatus → (files : List File) (moments : List ℕ) (rows : Told) (facts : Option (List ℕ)) (command : FileCommand) (tally : Tally) (left now written sent : Option (List ℕ)) (ended status : Status) → TellsRows rows command → IsUncut ended
    → SpokenEnd (FilesAnswer (Some files) (Some moments) rows facts command) tally left now written sent ended → ((ended ≡ status) ↔ WouldSay files (Some moments) rows facts command status)
told_exactly one files moments rows facts command tally left now written sent ended status told clear e =
    let is = ended_is e.answer written sent ended e.concludes (λ w. no_write (subst IsUncut w clear)) in
    let said = uncut_said (Some files) (Some moments) rows facts command e.answer e.answers (subst IsUncut is clear) in (
      λ same. (said.0, subst (λ s. FilesSay (Some files) (Some moments) rows facts command s said.0) (sym is ∙ same) said.1),
      λ would. is ∙ sym (one files moments rows facts command status (answer_status e.answer) would.0 said.0 told would.1 said.1),
    )
  where
    no_write : IsUncut WriteFault → ⊥
    no_write h = h
