-- The cause of each end of a run, from how it ended.
use Rattle.std.proofs.Common.{◌≡◌, ◌≢◌, ◌↔◌, ◌⊎◌, ℕ, List, Option, None, Some, Result, Ok, Err, inl, inr, refl, sym, ◌∙◌, subst}
use Rattle.std.specs.Prelude.{IsSome}
use Rattle.gk_io.specs.Shelf.{File}
use Rattle.line_reader.specs.Limits.{IsWithin}
use Rattle.policy_keeper.specs.Told.{Told}
use Rattle.run_status.specs.declared.said.Said.{Said}
use Rattle.run_status.specs.declared.stop.Stop.TheVariants as stop
use Rattle.run_status.specs.declared.status.Status.{Status}
use Rattle.run_status.specs.declared.status.Status.TheVariants.{Fine, WriteFault, SessionTooLong, OutOfMemory}
use Rattle.desk_state.specs.Failures.{Kept}
use Rattle.desk_opening.specs.Laws.{OpenedIsNotUnopened, UnopenedHasOneStatus, ReadIsNotRefused, RefusedHasOneStatus}
use Rattle.command_words.specs.Table.{FileCommand, compile, compile_set, dump, assess, Command, session, on_files, on_tables, rehearse}
use Rattle.command_words.specs.Lines.{CommandLine}
use Rattle.run_commands.specs.declared.halt.Halt.{Halt}
use Rattle.run_commands.specs.declared.halt.Halt.TheVariants as halt
use Rattle.run_commands.specs.Answers.{FilesAnswer}
use Rattle.run_commands.specs.Laws.{TellsRows, FilesHaveOneStatus, TimelessStatusIsOne, TablesHaveOneStatus}
use Rattle.rehearse_command.specs.Rehearsing.{SaysRehearsal}
use Rattle.spctl_cli.specs.Causes.{IsFetched, IsUnfailed, AsksFacts, TellsFacts, WouldRefuseFacts, WouldSay, HasFiles, HasDeskFor, IsWorked, Causes}
use Rattle.spctl_cli.specs.Conclusions.{Tally, SpokenEnd}
use Rattle.spctl_cli.specs.Ends.{RehearsalAnswers, CommandEnds, FilesEnd, RunEnds}
use Rattle.spctl_cli.specs.Words.{line_on}
use Rattle.spctl_cli.proofs.Concluded.{answer_status, ended_is}
use Rattle.spctl_cli.proofs.Runs.{of_line}
use Rattle.spctl_cli.proofs.Deskless.{session_facts, deskless_exactly, desk_is_used}
use Rattle.spctl_cli.proofs.WouldSay.{assessed_facts, timeless_exactly, told_exactly, work_is_done}
use Rattle.spctl_cli.proofs.Tables.{undone_exactly, tables_exactly, tables_are_done}

rehearsed : (answer : Result Said Halt) (steps : ℕ) → RehearsalAnswers steps answer → (answer_status answer ≡ Fine) ⊎ (answer_status answer ≡ OutOfMemory)
rehearsed (Ok said) steps h = inl h.status_is
rehearsed (Err why) steps h = inr (subst (λ w. answer_status (Err w) ≡ OutOfMemory) (sym h) refl)

-- a rehearsal ends well or out of memory, unless the sink fails
rehearsal_is_done : (steps : ℕ) (tally : Tally) (left now written sent : Option (List ℕ)) (ended : Status) → IsUnfailed ended → SpokenEnd (RehearsalAnswers steps) tally left now written sent ended → (ended ≡ Fine) ⊎ (ended ≡ OutOfMemory)
rehearsal_is_done steps tally left now written sent ended clear e =
    subst (λ (s : Status). (s ≡ Fine) ⊎ (s ≡ OutOfMemory)) (sym (ended_is e.answer written sent ended e.concludes (λ w. no_write (subst IsUnfailed w clear)))) (rehearsed e.answer steps e.answers)
  where
    no_write : IsUnfailed WriteFault → ⊥
    no_write h = h

module _ (files : Option (List File)) (moments : Option (List ℕ)) (rows : Told) (kept : Kept) (tally : Tally) (left now written sent : Option (List ℕ)) (ended : Status) where
  facts_come : ReadIsNotRefused → RefusedHasOneStatus → (facts : Option (List ℕ)) (command : Command) (status : Status) → AsksFacts command → TellsFacts files facts → IsFetched ended → WouldRefuseFacts files facts status
      → CommandEnds files moments rows kept tally facts command left now written sent ended → ended ≡ status
  facts_come read refused facts session status asks tells clear would e = session_facts read refused files rows kept tally facts left now written sent ended status would.0 tells clear would.1 e
  facts_come read refused facts (on_files (compile name)) status asks tells clear would e = absurd asks
  facts_come read refused facts (on_files (compile_set name)) status asks tells clear would e = absurd asks
  facts_come read refused facts (on_files (dump name)) status asks tells clear would e = absurd asks
  facts_come read refused facts (on_files (assess kind name code)) status asks tells clear would e =
      assessed_facts read refused files moments rows facts kind name code tally left now written sent ended status would.0 tells clear would.1 e.spoken
  facts_come read refused facts (on_tables command) status asks tells clear would e = absurd asks
  facts_come read refused facts (rehearse steps) status asks tells clear would e = absurd asks

  files_spoken : (told : List File) (facts : Option (List ℕ)) (command : FileCommand) → files ≡ Some told → FilesEnd files moments rows kept tally facts command left now written sent ended → SpokenEnd (FilesAnswer (Some told) moments rows facts command) tally left now written sent ended
  files_spoken told facts command is e = subst (λ f. SpokenEnd (FilesAnswer f moments rows facts command) tally left now written sent ended) is e.spoken

module _ (apart : OpenedIsNotUnopened) (unopened : UnopenedHasOneStatus) (read : ReadIsNotRefused) (refused : RefusedHasOneStatus) (one : FilesHaveOneStatus) (timeless_one : TimelessStatusIsOne) (tables_one : TablesHaveOneStatus)
    (files : Option (List File)) (moments : Option (List ℕ)) (rows : Told) (kept : Kept) (tally : Tally) (line : Option CommandLine) (left now written sent : Option (List ℕ)) (ended : Status)
    (short : (bytes : List ℕ) → left ≡ Some bytes → IsWithin bytes → ended ≢ SessionTooLong) (e : RunEnds files moments rows kept tally line left now written sent ended) where
  complete_on_files_so : (told : List File) (store : List ℕ) (facts : Option (List ℕ)) (command : FileCommand) → line ≡ Some (line_on store facts (on_files command)) → files ≡ Some told → TellsRows rows command → HasFiles files command → HasDeskFor files rows facts command
      → IsUnfailed ended → IsWorked ended ⊎ (ended ≡ OutOfMemory)
  complete_on_files_so told store facts command is shelved rows_told has desk clear =
      work_is_done apart told moments facts rows command tally left now written sent ended (subst (λ f. HasFiles f command) shelved has) rows_told (subst (λ f. HasDeskFor f rows facts command) shelved desk) clear
      (files_spoken files moments rows kept tally left now written sent ended told facts command shelved
      (of_line files moments rows kept tally left now written sent ended line (line_on store facts (on_files command)) is e))

  pub causes : Causes files moments rows kept line left ended
  causes = record {
    facts_cause = λ store facts command status is asks tells clear would.
        facts_come files moments rows kept tally left now written sent ended read refused facts command status asks tells clear would
        (of_line files moments rows kept tally left now written sent ended line (line_on store facts command) is e);
    deskless_cause = λ store facts status is tells told deskless clear.
        deskless_exactly apart unopened kept tally left now written sent ended read refused files rows facts tells
        (of_line files moments rows kept tally left now written sent ended line (line_on store facts session) is e) status deskless told clear;
    files_cause = λ told store facts command status is shelved rows_told timeless clear.
        timeless_exactly apart read told moments facts timeless_one rows command tally left now written sent ended status rows_told timeless clear
        (files_spoken files moments rows kept tally left now written sent ended told facts command shelved
        (of_line files moments rows kept tally left now written sent ended line (line_on store facts (on_files command)) is e));
    told_cause = λ told times store facts command status is shelved timed rows_told clear.
        subst (λ clock. ((ended ≡ status) ↔ WouldSay told clock rows facts command status)) (sym timed)
        (told_exactly one told times rows facts command tally left now written sent ended status rows_told clear
        (subst (λ clock. SpokenEnd (FilesAnswer (Some told) clock rows facts command) tally left now written sent ended) timed
        (files_spoken files moments rows kept tally left now written sent ended told facts command shelved
        (of_line files moments rows kept tally left now written sent ended line (line_on store facts (on_files command)) is e))));
    undone_cause = λ store facts command status is tells told undone clear.
        undone_exactly apart unopened files rows kept command tally left now written sent ended status tells told undone clear
        (of_line files moments rows kept tally left now written sent ended line (line_on store facts (on_tables command)) is e);
    tables_cause = λ store facts command status is tells told steady free clear.
        tables_exactly tables_one files rows kept command tally left now written sent ended status tells told steady free clear
        (of_line files moments rows kept tally left now written sent ended line (line_on store facts (on_tables command)) is e);
    complete = λ store facts bytes is tells told desk given within clear.
        desk_is_used apart files rows kept tally facts desk.0 left now written sent ended tells told desk.1 clear (short bytes given within)
        (of_line files moments rows kept tally left now written sent ended line (line_on store facts session) is e);
    complete_on_files = λ told store facts command is shelved rows_told has desk clear. complete_on_files_so told store facts command is shelved rows_told has desk clear;
    complete_on_tables = λ store facts command is tells told has desk clear.
        tables_are_done apart files rows kept command tally left now written sent ended tells told has desk clear
        (of_line files moments rows kept tally left now written sent ended line (line_on store facts (on_tables command)) is e);
    complete_on_rehearsal = λ store facts steps is clear.
        rehearsal_is_done steps tally left now written sent ended clear
        (of_line files moments rows kept tally left now written sent ended line (line_on store facts (rehearse steps)) is e);
  }
