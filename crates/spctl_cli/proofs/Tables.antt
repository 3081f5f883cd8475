-- What a command on the rules says, and what is there then.
use Rattle.std.proofs.Common.{◌≡◌, ◌≢◌, ◌↔◌, ℕ, ◌⊎◌, Bool, true, false, List, [], Option, None, Some, Result, Ok, Err, IfOk, IfErr, inl, inr, arith, refl, sym, ◌∙◌, subst}
use Rattle.std.specs.Prelude.{IsSome}
use Rattle.std.specs.List.{list_any}
use Rattle.gk_io.specs.Shelf.{File, file_named}
use Rattle.policy_model.specs.History.{Event, Opening}
use Rattle.store_model.specs.Raw.{RawTables}
use Rattle.policy_keeper.specs.Told.{Told}
use Rattle.run_status.specs.declared.said.Said.{Said}
use Rattle.run_status.specs.declared.stop.Stop.TheVariants as stop
use Rattle.run_status.specs.declared.status.Status.{Status}
use Rattle.run_status.specs.declared.status.Status.TheVariants.{Fine, Denied, Usage, ReadFault, WriteFault, ShelfFault, ClockFault, KeeperFault, FileMissing, FileTooLong, BadFacts, BadStore, Refused, SessionTooLong, OutOfMemory}
use Rattle.table_commands.specs.declared.limits.TheConstants.{MOST_IMPORT_BYTES}
use Rattle.table_commands.specs.Replies.{is_refusal, refused_when}
use Rattle.table_commands.specs.ImportSays.{Imports, IsRefused, IsDone, SaysImport}
use Rattle.desk_state.specs.Failures.{Kept, kept_by, Shows}
use Rattle.desk_opening.specs.Opens.{IsOpening}
use Rattle.desk_opening.specs.Laws.{OpenedIsNotUnopened, UnopenedHasOneStatus}
use Rattle.command_words.specs.Table as table
use Rattle.command_words.specs.Table.{TableCommand}
use Rattle.run_commands.specs.declared.halt.Halt.{Halt}
use Rattle.run_commands.specs.declared.halt.Halt.TheVariants as halt
use Rattle.run_commands.specs.Says.{TableSays, TablesSay}
use Rattle.run_commands.specs.Answers.{HasDesk, TablesHalt, TablesAnswer}
use Rattle.run_commands.specs.Laws.{IsSteady, TellsImport, TablesHaveOneStatus}
use Rattle.spctl_cli.specs.Causes.{IsLoaded, IsUnfailed, ReachesTables, IsUndone, IsCarriedOut, HasImport, TablesWouldSay}
use Rattle.spctl_cli.specs.Conclusions.{Tally, SpokenEnd}
use Rattle.spctl_cli.proofs.Concluded.{answer_status, ended_is}
use Rattle.spctl_cli.proofs.Deskless.{nothing_told, nothing_shelved, without_files}
use Rattle.spctl_cli.proofs.WouldSay.{not_both, IsWithout, without, there}

-- what was answered was carried out
answered : (refused : Bool) → IsCarriedOut (refused_when refused)
answered true = tt
answered false = tt

carried_or_undone : (status : Status) → IsCarriedOut status → IsUndone status → ⊥
carried_or_undone Fine carried undone = undone
carried_or_undone Refused carried undone = undone
carried_or_undone other carried undone = carried

-- an import is carried out once its file is read, unless memory runs out
refused_or_done : (o : Opening) (h after : List Event) (bytes text : List ℕ) (status : Status) → IsRefused h bytes status text after ⊎ IsDone o h bytes status text after → IsCarriedOut status
refused_or_done o h after bytes text status (inl it) = subst IsCarriedOut (sym it.status_is) tt
refused_or_done o h after bytes text status (inr it) = subst IsCarriedOut (sym it.status_is) (answered (list_any is_refusal it.replies))

imports : (o : Opening) (h after : List Event) (bytes text : List ℕ) (status : Status) → Imports o h after bytes status text → IsCarriedOut status ⊎ (status ≡ OutOfMemory)
imports o h after bytes text OutOfMemory it = inr refl
imports o h after bytes text other it = inl (refused_or_done o h after bytes text other it)

not_starved : IsUndone OutOfMemory → ⊥
not_starved undone = undone

imports_or_undone : (status : Status) → IsCarriedOut status ⊎ (status ≡ OutOfMemory) → IsUndone status → ⊥
imports_or_undone status (inl carried) undone = carried_or_undone status carried undone
imports_or_undone status (inr starved) undone = not_starved (subst IsUndone starved undone)

one_without : (files : List File) (name : List ℕ) (limit : ℕ) (first second : Status) → IsWithout files name limit first → IsWithout files name limit second → second ≡ first
one_without files name limit first second (inl a) (inl b) = b.0 ∙ sym a.0
one_without files name limit first second (inr a) (inr b) = b.0 ∙ sym a.0
one_without files name limit first second (inl a) (inr b) = absurd (not_both (file_named files name) b.1.0 a.1 b.1.1)
one_without files name limit first second (inr a) (inl b) = absurd (not_both (file_named files name) a.1.0 b.1 a.1.1)

-- an import that did nothing for want of its file says so however it is asked
one_import : (o p : Opening) (files : List File) (name : List ℕ) (first second : Status) (said other : List ℕ) (one two : List Event) → IsUndone first → SaysImport o [] (Some files) name first said one → SaysImport p [] (Some files) name second other two → second ≡ first
one_import o p files name first second said other one two undone (inl a) (inl b) = one_without files name MOST_IMPORT_BYTES first second (without files name MOST_IMPORT_BYTES first said a.says) (without files name MOST_IMPORT_BYTES second other b.says)
one_import o p files name first second said other one two undone (inl a) (inr b) = absurd (there files name MOST_IMPORT_BYTES first b.bytes (without files name MOST_IMPORT_BYTES first said a.says) b.file.0 b.file.1)
one_import o p files name first second said other one two undone (inr a) b = absurd (imports_or_undone first (imports o [] one a.bytes said first a.says) undone)

module _ (files : List File) (kept others : Kept) where
  one_over_desk : (command : TableCommand) (o p : Opening) (first second : Status) (said other : List ℕ) → IsUndone first → TableSays (Some files) kept command o first said → TableSays (Some files) others command p second other → second ≡ first
  one_over_desk (table.edit line) o p first second said other undone a b = absurd (carried_or_undone first (subst IsCarriedOut (sym a.says.says.status_is) (answered (is_refusal a.says.says.reply))) undone)
  one_over_desk table.status o p first second said other undone a b = absurd (carried_or_undone first (subst IsCarriedOut (sym a.status_is) tt) undone)
  one_over_desk table.list o p first second said other undone a b = absurd (carried_or_undone first (subst IsCarriedOut (sym a.status_is) tt) undone)
  one_over_desk (table.import_file name) o p first second said other undone a b = one_import o p files name first second said other a.after b.after undone a.says b.says

module _ (files : List File) (kept : Kept) where
  over_import : (o : Opening) (name : List ℕ) (status : Status) (said : List ℕ) (after : List Event) → HasImport (Some files) (table.import_file name) → SaysImport o [] (Some files) name status said after → IsCarriedOut status ⊎ (status ≡ OutOfMemory)
  over_import o name status said after has (inl a) = absurd (there files name MOST_IMPORT_BYTES status has.0 (without files name MOST_IMPORT_BYTES status said a.says) has.1.0 has.1.1)
  over_import o name status said after has (inr a) = imports o [] after a.bytes said status a.says

  over_desk : (command : TableCommand) (o : Opening) (status : Status) (said : List ℕ) → HasImport (Some files) command → TableSays (Some files) kept command o status said → IsCarriedOut status ⊎ (status ≡ OutOfMemory)
  over_desk (table.edit line) o status said has says = inl (subst IsCarriedOut (sym says.says.says.status_is) (answered (is_refusal says.says.says.reply)))
  over_desk table.status o status said has says = inl (subst IsCarriedOut (sym says.status_is) tt)
  over_desk table.list o status said has says = inl (subst IsCarriedOut (sym says.status_is) tt)
  over_desk (table.import_file name) o status said has says = over_import o name status said says.after has says.says

nothing_rose : (told : Told) → IsSteady (kept_by told 0 0)
nothing_rose told rose = omega (arith, rose)

no_edits : (o : Opening) (files : List File) (name : List ℕ) (status : Status) (said : List ℕ) (after : List Event) → IsUndone status → SaysImport o [] (Some files) name status said after → Shows [] after 0 0
no_edits o files name status said after undone (inl it) = subst (λ h. Shows [] h 0 0) (sym it.after_is) (λ can. omega arith)
no_edits o files name status said after undone (inr it) = absurd (imports_or_undone status (imports o [] after it.bytes said status it.says) undone)

-- a command on the rules that did nothing did so whatever the keeper's count
without_edits : (o : Opening) (files : List File) (kept : Kept) (command : TableCommand) (status : Status) (said : List ℕ) → IsUndone status → TableSays (Some files) kept command o status said → TableSays (Some files) (kept_by kept.told 0 0) command o status said
without_edits o files kept (table.edit line) status said undone says = absurd (carried_or_undone status (subst IsCarriedOut (sym says.says.says.status_is) (answered (is_refusal says.says.says.reply))) undone)
without_edits o files kept table.status status said undone says = absurd (carried_or_undone status (subst IsCarriedOut (sym says.status_is) tt) undone)
without_edits o files kept table.list status said undone says = absurd (carried_or_undone status (subst IsCarriedOut (sym says.status_is) tt) undone)
without_edits o files kept (table.import_file name) status said undone says = record {
  after = says.after;
  says = says.says;
  mirrors = says.mirrors;
  shows = no_edits o files name status said says.after undone says.says;
}

module _ (apart : OpenedIsNotUnopened) (files : List File) where
  undone_without : (raw : RawTables) (kept : Kept) (command : TableCommand) (status : Status) (said : List ℕ) → IsUndone status
      → TablesSay (Some files) (Some raw) kept command status said → TablesSay (Some files) (Some raw) (kept_by kept.told 0 0) command status said
  undone_without raw kept command status said undone (inl says) = inl says
  undone_without raw kept command status said undone (inr says) = inr (says.0, says.1, without_edits says.0 files kept command status said undone says.2)

  one_said : UnopenedHasOneStatus → (raw : RawTables) (kept others : Kept) (command : TableCommand) (first second : Status) (said other : List ℕ) → IsUndone first
      → TablesSay (Some files) (Some raw) kept command first said → TablesSay (Some files) (Some raw) others command second other → second ≡ first
  one_said one raw kept others command first second said other undone (inl a) (inl b) = one files None raw second first other said b a
  one_said one raw kept others command first second said other undone (inl a) (inr b) = absurd (apart files None raw b.0 first said b.1 a)
  one_said one raw kept others command first second said other undone (inr a) (inl b) = absurd (apart files None raw a.0 second other a.1 b)
  one_said one raw kept others command first second said other undone (inr a) (inr b) = one_over_desk files kept others command a.0 b.0 first second said other undone a.2 b.2

-- over a desk a command on the rules is carried out, starved, or without its file
over_or_undone : (files : List File) (kept : Kept) (command : TableCommand) (o : Opening) (text : List ℕ) → TableSays (Some files) kept command o BadStore text → IsCarriedOut BadStore ⊎ (BadStore ≡ OutOfMemory)
over_or_undone files kept (table.edit line) o text says = inl (subst IsCarriedOut (sym says.says.says.status_is) (answered (is_refusal says.says.says.reply)))
over_or_undone files kept table.status o text says = inl (subst IsCarriedOut (sym says.status_is) tt)
over_or_undone files kept table.list o text says = inl (subst IsCarriedOut (sym says.status_is) tt)
over_or_undone files kept (table.import_file name) o text says = import_settled says.after says.says
  where
    import_settled : (after : List Event) → SaysImport o [] (Some files) name BadStore text after → IsCarriedOut BadStore ⊎ (BadStore ≡ OutOfMemory)
    import_settled after (inl a) = absurd a.says
    import_settled after (inr a) = imports o [] after a.bytes text BadStore a.says

-- without files a command on the rules that is no import says the same as with others
tables_without : (files other : Option (List File)) (rows : Told) (kept : Kept) (command : TableCommand) (status : Status) (text : List ℕ) → TellsImport None command → TablesSay files rows kept command status text → TablesSay other rows kept command status text
tables_without files other rows kept (table.edit line) status text tells (inl h) = inl h
tables_without files other rows kept (table.edit line) status text tells (inr h) = inr (h.0, without_files files other rows h.0 h.1, h.2)
tables_without files other rows kept table.status status text tells (inl h) = inl h
tables_without files other rows kept table.status status text tells (inr h) = inr (h.0, without_files files other rows h.0 h.1, h.2)
tables_without files other rows kept table.list status text tells (inl h) = inl h
tables_without files other rows kept table.list status text tells (inr h) = inr (h.0, without_files files other rows h.0 h.1, h.2)
tables_without files other rows kept (table.import_file name) status text tells h = absurd (nothing_shelved tells)

halts_without : (files other : Option (List File)) (rows : Told) (command : TableCommand) (why : Halt) → TablesHalt files rows command why → TablesHalt other rows command why
halts_without files other rows command (halt.Stop stop.ShelfFault) h = (h.0, (h.1.0, without_files files other rows h.1.0 h.1.1))
halts_without files other rows command (halt.Stop stop.ClockFault) h = h
halts_without files other rows command (halt.Stop stop.OutOfMemory) h = h
halts_without files other rows command halt.KeeperFault h = h

answer_without : (files other : Option (List File)) (rows : Told) (kept : Kept) (command : TableCommand) (answer : Result Said Halt) → TellsImport None command → TablesAnswer files rows kept command answer → TablesAnswer other rows kept command answer
answer_without files other rows kept command (Ok said) tells h = record { says = tables_without files other rows kept command said.status said.text tells h.says; halts = tt; unmade = h.unmade }
answer_without files other rows kept command (Err why) tells h = record { says = tt; halts = halts_without files other rows command why h.halts; unmade = h.unmade }

would_without : (files other : Option (List File)) (rows : Told) (command : TableCommand) (status : Status) → TellsImport None command → TablesWouldSay files rows command status → TablesWouldSay other rows command status
would_without files other rows command status tells would = (would.0, would.1, would.2, tables_without files other rows would.0 command status would.2 tells would.3)

-- a status that says why nothing was done is no fault of a device
no_undone : (Fault : Status) → (IsUndone Fault → ⊥) → (status : Status) → IsUndone status → Fault ≡ status → ⊥
no_undone Fault none status undone is = none (subst IsUndone (sym is) undone)

reaches_shelf : (status : Status) → ReachesTables status ShelfFault → status ≡ BadStore
reaches_shelf BadStore h = refl
reaches_shelf other h = absurd h

reaches_keeper : (status : Status) → ReachesTables status KeeperFault → ⊥
reaches_keeper BadStore h = h
reaches_keeper other h = h

reaches_memory : (status : Status) → ReachesTables status OutOfMemory → ⊥
reaches_memory BadStore h = h
reaches_memory other h = h

reaches_write : (status : Status) → ReachesTables status WriteFault → ⊥
reaches_write BadStore h = h
reaches_write other h = h

module _ (apart : OpenedIsNotUnopened) (unopened : UnopenedHasOneStatus) (files : List File) (raw : RawTables) (kept : Kept) (command : TableCommand) where
  undone_said : (answer : Result Said Halt) (status : Status) → IsUndone status → TablesAnswer (Some files) (Some raw) kept command answer → answer_status answer ≡ status → TablesWouldSay (Some files) (Some raw) command status
  undone_said (Ok said) status undone h is =
      (kept_by kept.told 0 0, nothing_rose kept.told, said.text, undone_without apart files raw kept command status said.text undone (subst (λ s. TablesSay (Some files) (Some raw) kept command s said.text) is h.says))
  undone_said (Err (halt.Stop stop.ShelfFault)) status undone h is = absurd (no_undone ShelfFault (λ none. none) status undone is)
  undone_said (Err (halt.Stop stop.ClockFault)) status undone h is = absurd (no_undone ClockFault (λ none. none) status undone is)
  undone_said (Err (halt.Stop stop.OutOfMemory)) status undone h is = absurd (no_undone OutOfMemory (λ none. none) status undone is)
  undone_said (Err halt.KeeperFault) status undone h is = absurd (no_undone KeeperFault (λ none. none) status undone is)

  -- over a desk a store isn't said to be bad
  over_not_bad : (others : Kept) (desk : HasDesk (Some files) None (Some raw)) (text : List ℕ) → TablesSay (Some files) (Some raw) others command BadStore text → ⊥
  over_not_bad others desk text (inl h) = apart files None raw desk.0 BadStore text desk.1 h
  over_not_bad others desk text (inr h) = carried_not_bad (over_or_undone files others command h.0 text h.2)
    where
      carried_not_bad : IsCarriedOut BadStore ⊎ (BadStore ≡ OutOfMemory) → ⊥
      carried_not_bad (inl carried) = carried
      carried_not_bad (inr is) = (cc)

  undone_comes : (answer : Result Said Halt) (status : Status) → IsUndone status → TablesAnswer (Some files) (Some raw) kept command answer → ReachesTables status (answer_status answer) → TablesWouldSay (Some files) (Some raw) command status → answer_status answer ≡ status
  undone_comes (Ok said) status undone h clear would = one_said apart files unopened raw would.0 kept command status said.status would.2 said.text undone would.3 h.says
  undone_comes (Err (halt.Stop stop.ShelfFault)) status undone h clear would =
      absurd (over_not_bad would.0 h.halts.1 would.2 (subst (λ s. TablesSay (Some files) (Some raw) would.0 command s would.2) (reaches_shelf status clear) would.3))
  undone_comes (Err (halt.Stop stop.ClockFault)) status undone h clear would = absurd h.halts
  undone_comes (Err (halt.Stop stop.OutOfMemory)) status undone h clear would = absurd (reaches_memory status clear)
  undone_comes (Err halt.KeeperFault) status undone h clear would = absurd (reaches_keeper status clear)

  undone_so : (answer : Result Said Halt) (ended status : Status) → ended ≡ answer_status answer → IsUndone status → TablesAnswer (Some files) (Some raw) kept command answer → ReachesTables status ended → ((ended ≡ status) ↔ TablesWouldSay (Some files) (Some raw) command status)
  undone_so answer ended status is undone h clear =
      (λ same. undone_said answer status undone h (sym is ∙ same), λ would. is ∙ undone_comes answer status undone h (subst (ReachesTables status) is clear) would)

module _ (apart : OpenedIsNotUnopened) (unopened : UnopenedHasOneStatus) (kept : Kept) (command : TableCommand) (answer : Result Said Halt) (ended status : Status) (is : ended ≡ answer_status answer) (undone : IsUndone status) (clear : ReachesTables status ended) where
  undone_any : (files : Option (List File)) (rows : Told) → TellsImport files command → IsSome rows → TablesAnswer files rows kept command answer → ((ended ≡ status) ↔ TablesWouldSay files rows command status)
  undone_any files None tells told h = absurd (nothing_told told)
  undone_any (Some files) (Some raw) tells told h = undone_so apart unopened files raw kept command answer ended status is undone h clear
  undone_any None (Some raw) tells told h =
      let both = undone_so apart unopened [] raw kept command answer ended status is undone (answer_without None (Some []) (Some raw) kept command answer tells h) clear in (
        λ same. would_without (Some []) None (Some raw) command status tells (both.0 same),
        λ would. both.1 (would_without None (Some []) (Some raw) command status tells would),
      )

-- a command on the rules says why it did nothing exactly where it would
pub undone_exactly : OpenedIsNotUnopened → UnopenedHasOneStatus → (files : Option (List File)) (rows : Told) (kept : Kept) (command : TableCommand) (tally : Tally) (left now written sent : Option (List ℕ)) (ended status : Status) → TellsImport files command → IsSome rows → IsUndone status → ReachesTables status ended
    → SpokenEnd (TablesAnswer files rows kept command) tally left now written sent ended → ((ended ≡ status) ↔ TablesWouldSay files rows command status)
undone_exactly apart unopened files rows kept command tally left now written sent ended status tells told undone clear e =
    undone_any apart unopened kept command e.answer ended status (ended_is e.answer written sent ended e.concludes (λ w. reaches_write status (subst (ReachesTables status) w clear))) undone clear files rows tells told e.answers

no_write : IsLoaded WriteFault → ⊥
no_write h = h

no_memory : IsLoaded OutOfMemory → ⊥
no_memory h = h

loaded_said : (files : Option (List File)) (rows : Told) (kept : Kept) (command : TableCommand) (answer : Result Said Halt) → TablesAnswer files rows kept command answer → IsLoaded (answer_status answer) → (text : List ℕ) × TablesSay files rows kept command (answer_status answer) text
loaded_said files rows kept command (Ok said) h clear = (said.text, h.says)
loaded_said files rows kept command (Err (halt.Stop stop.ShelfFault)) h clear = absurd clear
loaded_said files rows kept command (Err (halt.Stop stop.ClockFault)) h clear = absurd h.halts
loaded_said files rows kept command (Err (halt.Stop stop.OutOfMemory)) h clear = absurd clear
loaded_said files rows kept command (Err halt.KeeperFault) h clear = absurd clear

-- a command on the rules says something exactly where it would, where the keeper didn't fail
pub tables_exactly : TablesHaveOneStatus → (files : Option (List File)) (rows : Told) (kept : Kept) (command : TableCommand) (tally : Tally) (left now written sent : Option (List ℕ)) (ended status : Status) → TellsImport files command → IsSome rows → IsSteady kept → status ≢ OutOfMemory → IsLoaded ended
    → SpokenEnd (TablesAnswer files rows kept command) tally left now written sent ended → ((ended ≡ status) ↔ TablesWouldSay files rows command status)
tables_exactly one files rows kept command tally left now written sent ended status tells told steady free clear e =
    let is = ended_is e.answer written sent ended e.concludes (λ w. no_write (subst IsLoaded w clear)) in
    let said = loaded_said files rows kept command e.answer e.answers (subst IsLoaded is clear) in (
      λ same. (kept, steady, said.0, subst (λ s. TablesSay files rows kept command s said.0) (sym is ∙ same) said.1),
      λ would. is ∙ one files rows kept would.0 command (answer_status e.answer) status said.0 would.2 tells told steady would.1 (λ m. no_memory (subst IsLoaded (is ∙ m) clear)) free said.1 would.3,
    )

module _ (apart : OpenedIsNotUnopened) (files : List File) (raw : RawTables) (kept : Kept) (command : TableCommand) (desk : HasDesk (Some files) None (Some raw)) (has : HasImport (Some files) command) where
  carried : (status : Status) (said : List ℕ) → TablesSay (Some files) (Some raw) kept command status said → IsCarriedOut status ⊎ (status ≡ OutOfMemory)
  carried status said (inl says) = absurd (apart files None raw desk.0 status said desk.1 says)
  carried status said (inr says) = over_desk files kept command says.0 status said has says.2

  carried_answer : (answer : Result Said Halt) → TablesAnswer (Some files) (Some raw) kept command answer → IsUnfailed (answer_status answer) → IsCarriedOut (answer_status answer) ⊎ (answer_status answer ≡ OutOfMemory)
  carried_answer (Ok said) h clear = carried said.status said.text h.says
  carried_answer (Err (halt.Stop stop.ShelfFault)) h clear = absurd clear
  carried_answer (Err (halt.Stop stop.ClockFault)) h clear = absurd clear
  carried_answer (Err (halt.Stop stop.OutOfMemory)) h clear = inr refl
  carried_answer (Err halt.KeeperFault) h clear = absurd clear

has_without : (files other : Option (List File)) (command : TableCommand) → TellsImport None command → HasImport files command → HasImport other command
has_without files other (table.edit line) tells has = tt
has_without files other table.status tells has = tt
has_without files other table.list tells has = tt
has_without files other (table.import_file name) tells has = absurd (nothing_shelved tells)

carried_any : OpenedIsNotUnopened → (files : Option (List File)) (rows : Told) (kept : Kept) (command : TableCommand) (answer : Result Said Halt) → TellsImport files command → IsSome rows → HasImport files command → HasDesk files None rows → TablesAnswer files rows kept command answer → IsUnfailed (answer_status answer)
    → IsCarriedOut (answer_status answer) ⊎ (answer_status answer ≡ OutOfMemory)
carried_any apart files None kept command answer tells told has desk h clear = absurd (nothing_told told)
carried_any apart (Some files) (Some raw) kept command answer tells told has desk h clear = carried_answer apart files raw kept command desk has answer h clear
carried_any apart None (Some raw) kept command answer tells told has desk h clear =
    carried_answer apart [] raw kept command (desk.0, without_files None (Some []) (Some raw) desk.0 desk.1) (has_without None (Some []) command tells has) answer (answer_without None (Some []) (Some raw) kept command answer tells h) clear

-- a command on the rules that has its file and a desk is carried out, unless a device fails or memory runs out
pub tables_are_done : OpenedIsNotUnopened → (files : Option (List File)) (rows : Told) (kept : Kept) (command : TableCommand) (tally : Tally) (left now written sent : Option (List ℕ)) (ended : Status) → TellsImport files command → IsSome rows → HasImport files command → HasDesk files None rows → IsUnfailed ended
    → SpokenEnd (TablesAnswer files rows kept command) tally left now written sent ended → IsCarriedOut ended ⊎ (ended ≡ OutOfMemory)
tables_are_done apart files rows kept command tally left now written sent ended tells told has desk clear e =
    let is = ended_is e.answer written sent ended e.concludes (λ w. no_write_failed (subst IsUnfailed w clear)) in
    subst (λ (s : Status). IsCarriedOut s ⊎ (s ≡ OutOfMemory)) (sym is) (carried_any apart files rows kept command e.answer tells told has desk e.answers (subst IsUnfailed is clear))
  where
    no_write_failed : IsUnfailed WriteFault → ⊥
    no_write_failed h = h
