-- What is said of the facts file, and where a session has no desk.
use Rattle.std.proofs.Common.{◌≡◌, ◌≢◌, ◌↔◌, ◌⊎◌, ℕ, List, [], Option, None, Some, Result, Ok, Err, inl, inr, refl, sym, ◌∙◌, subst}
use Rattle.std.specs.Prelude.{IsSome}
use Rattle.gk_io.specs.Shelf.{File}
use Rattle.store_model.specs.Raw.{RawTables}
use Rattle.policy_model.specs.History.{Opening}
use Rattle.policy_keeper.specs.Told.{Told}
use Rattle.session_model.specs.Slots.{State}
use Rattle.session_model.specs.Session.{begun}
use Rattle.run_status.specs.declared.said.Said.{Said}
use Rattle.run_status.specs.declared.stop.Stop.TheVariants as stop
use Rattle.run_status.specs.declared.status.Status.{Status}
use Rattle.run_status.specs.declared.status.Status.TheVariants.{Fine, Denied, Usage, ReadFault, WriteFault, ShelfFault, ClockFault, KeeperFault, FileMissing, FileTooLong, BadFacts, BadStore, Refused, SessionTooLong, OutOfMemory}
use Rattle.run_status.specs.Files.{SaysWithoutFile}
use Rattle.desk_opening.specs.declared.limits.TheConstants.{MOST_FACTS_BYTES}
use Rattle.desk_opening.specs.Facts.{HasFacts, SaysBadFacts, SaysOfFacts}
use Rattle.desk_opening.specs.Opens.{IsOpening, SaysOfStore, SaysUnopened}
use Rattle.desk_opening.specs.Laws.{OpenedIsNotUnopened, UnopenedHasOneStatus, IsDeskless, ReadIsNotRefused, RefusedHasOneStatus}
use Rattle.run_commands.specs.declared.halt.Halt.{Halt}
use Rattle.run_commands.specs.declared.halt.Halt.TheVariants as halt
use Rattle.run_commands.specs.Answers.{UnopenedAnswers, UnopenedHalts}
use Rattle.desk_state.specs.Failures.{Kept}
use Rattle.spctl_cli.specs.Causes.{IsAnswered, IsFetched, IsUnfailed, ReachesStore, ReachesDesk, TellsFacts, TellsStore, WouldNotOpen}
use Rattle.spctl_cli.specs.Conclusions.{Tally, SpokenEnd}
use Rattle.spctl_cli.specs.Ends.{SessionEnds, SessionRun}
use Rattle.spctl_cli.proofs.Concluded.{answer_status, ended_is}

pub nothing_told : IsSome {T = RawTables} None → ⊥
nothing_told h = (cc)

pub nothing_shelved : IsSome {T = List File} None → ⊥
nothing_shelved h = (cc)

nothing_named : IsSome {T = List ℕ} None → ⊥
nothing_named h = (cc)

-- without a facts file a run begins at the same place whatever files there are
pub without_files : (files other : Option (List File)) (rows : Told) (o : Opening) → IsOpening files None rows o → IsOpening other None rows o
without_files files other rows o opening = record {
  facts = opening.facts;
  facts_are = opening.facts_are;
  tables = opening.tables;
  stored = opening.stored;
  opening_is = opening.opening_is;
}

pub opening_facts : (files : Option (List File)) (facts : Option (List ℕ)) (rows : Told) (o : Opening) → IsOpening files facts rows o → HasFacts files facts
opening_facts files facts rows o opening = (opening.facts, opening.facts_are)

-- facts that were read aren't told to be wrong, on a shelf that tells its files where one is named
pub facts_apart : ReadIsNotRefused → (files : Option (List File)) (facts : Option (List ℕ)) (status : Status) (text : List ℕ) → TellsFacts files facts → HasFacts files facts → SaysOfFacts files facts status text → ⊥
facts_apart apart files None status text tells has said = said
facts_apart apart (Some files) (Some name) status text tells has said = apart files (Some name) status text has said
facts_apart apart None (Some name) status text tells has said = nothing_shelved tells

pub facts_status : RefusedHasOneStatus → (files : Option (List File)) (facts : Option (List ℕ)) (first second : Status) (said other : List ℕ) → TellsFacts files facts → SaysOfFacts files facts first said → SaysOfFacts files facts second other → first ≡ second
facts_status one files None first second said other tells a b = absurd a
facts_status one (Some files) (Some name) first second said other tells a b = one files (Some name) first second said other a b
facts_status one None (Some name) first second said other tells a b = absurd (nothing_shelved tells)

-- where the facts file is said to be wrong, so it is said without a desk
pub unopened_facts : ReadIsNotRefused → RefusedHasOneStatus → (files : Option (List File)) (rows : Told) (facts : Option (List ℕ)) (status second : Status) (text other : List ℕ) → TellsFacts files facts → SaysOfFacts files facts status text
    → SaysUnopened files facts rows second other → second ≡ status
unopened_facts apart one files rows facts status second text other tells said (inl h) = facts_status one files facts second status other text tells h said
unopened_facts apart one files rows facts status second text other tells said (inr h) = absurd (facts_apart apart files facts status text tells h.0 said)

unopened_answer : ReadIsNotRefused → RefusedHasOneStatus → (files : Option (List File)) (rows : Told) (facts : Option (List ℕ)) (answer : Result Said Halt) (status : Status) (text : List ℕ) → TellsFacts files facts → SaysOfFacts files facts status text
    → UnopenedAnswers files rows facts answer → IsFetched (answer_status answer) → answer_status answer ≡ status
unopened_answer apart one files rows facts (Ok said) status text tells said_so h clear = unopened_facts apart one files rows facts status said.status text said.text tells said_so h
unopened_answer apart one files rows facts (Err (halt.Stop stop.ShelfFault)) status text tells said_so h clear = absurd clear
unopened_answer apart one files rows facts (Err (halt.Stop stop.ClockFault)) status text tells said_so h clear = absurd h
unopened_answer apart one files rows facts (Err (halt.Stop stop.OutOfMemory)) status text tells said_so h clear = absurd clear
unopened_answer apart one files rows facts (Err halt.KeeperFault) status text tells said_so h clear = absurd (facts_apart apart files facts status text tells h said_so)

no_write : IsFetched WriteFault → ⊥
no_write h = h

pub fetched_not_write : (ended : Status) → IsFetched ended → ended ≢ WriteFault
fetched_not_write ended clear is = no_write (subst IsFetched is clear)

-- a session says of its facts file what is so of it
pub session_facts : ReadIsNotRefused → RefusedHasOneStatus → (files : Option (List File)) (rows : Told) (kept : Kept) (tally : Tally) (facts : Option (List ℕ)) (left now written sent : Option (List ℕ)) (ended status : Status) (text : List ℕ) → TellsFacts files facts → IsFetched ended
    → SaysOfFacts files facts status text → SessionRun files rows kept tally facts left now written sent ended → ended ≡ status
session_facts apart one files rows kept tally facts left now written sent ended status text tells clear said (inl e) =
    absurd (facts_apart apart files facts status text tells (opening_facts files facts rows e.opening e.is_opening) said)
session_facts apart one files rows kept tally facts left now written sent ended status text tells clear said (inr e) =
    let is = ended_is e.spoken.answer written sent ended e.spoken.concludes (fetched_not_write ended clear) in
    is ∙ unopened_answer apart one files rows facts e.spoken.answer status text tells said e.spoken.answers (subst IsFetched is clear)

-- a session over a desk doesn't say that it has none
desk_is_there : (kept : Kept) (o : Opening) (s : State) (left now written sent : Option (List ℕ)) (status : Status) → IsDeskless status → SessionEnds kept o s left now written sent status → ⊥
desk_is_there kept o s left now written sent FileMissing deskless e = absurd e
desk_is_there kept o s left now written sent FileTooLong deskless e = absurd e
desk_is_there kept o s left now written sent BadFacts deskless e = absurd e
desk_is_there kept o s left now written sent BadStore deskless e = absurd e
desk_is_there kept o s left now written sent other deskless e = absurd deskless

no_deskless : (Fault : Status) → (IsDeskless Fault → ⊥) → (status : Status) → IsDeskless status → Fault ≡ status → ⊥
no_deskless Fault none status deskless is = none (subst IsDeskless (sym is) deskless)

said_deskless : (files : Option (List File)) (rows : Told) (facts : Option (List ℕ)) (answer : Result Said Halt) (status : Status) → IsDeskless status → UnopenedAnswers files rows facts answer → answer_status answer ≡ status → WouldNotOpen files rows facts status
said_deskless files rows facts (Ok said) status deskless h is = (said.text, subst (λ s. SaysUnopened files facts rows s said.text) is h)
said_deskless files rows facts (Err (halt.Stop stop.ShelfFault)) status deskless h is = absurd (no_deskless ShelfFault (λ none. none) status deskless is)
said_deskless files rows facts (Err (halt.Stop stop.ClockFault)) status deskless h is = absurd h
said_deskless files rows facts (Err (halt.Stop stop.OutOfMemory)) status deskless h is = absurd (no_deskless OutOfMemory (λ none. none) status deskless is)
said_deskless files rows facts (Err halt.KeeperFault) status deskless h is = absurd (no_deskless KeeperFault (λ none. none) status deskless is)

deskless_not_write : (ended status : Status) → IsDeskless status → ended ≡ status → ended ≢ WriteFault
deskless_not_write ended status deskless is other = no_deskless WriteFault (λ none. none) status deskless (sym other ∙ is)

-- a session that ends so would say so
deskless_would : (files : Option (List File)) (rows : Told) (kept : Kept) (tally : Tally) (facts : Option (List ℕ)) (left now written sent : Option (List ℕ)) (ended status : Status) → IsDeskless status → SessionRun files rows kept tally facts left now written sent ended → ended ≡ status → WouldNotOpen files rows facts status
deskless_would files rows kept tally facts left now written sent ended status deskless (inl e) is = absurd (desk_is_there kept e.opening begun left now written sent ended (subst IsDeskless (sym is) deskless) e.ends)
deskless_would files rows kept tally facts left now written sent ended status deskless (inr e) is =
    said_deskless files rows facts e.spoken.answer status deskless e.spoken.answers
    (sym (ended_is e.spoken.answer written sent ended e.spoken.concludes (deskless_not_write ended status deskless is)) ∙ is)

-- what is said of a store is that it is bad
without_bad : (files : Option (List File)) (name : List ℕ) (text : List ℕ) → SaysWithoutFile files name MOST_FACTS_BYTES BadStore text → ⊥
without_bad files name text h = h

facts_not_bad : (files : Option (List File)) (facts : Option (List ℕ)) (text : List ℕ) → SaysOfFacts files facts BadStore text → ⊥
facts_not_bad files None text h = h
facts_not_bad files (Some name) text (inl h) = without_bad files name text h
facts_not_bad files (Some name) text (inr h) = h.2

reaches_not_write : (facts : Option (List ℕ)) → ReachesStore facts WriteFault → ⊥
reaches_not_write None h = h
reaches_not_write (Some name) h = h

shelf_is_before : (name : Option (List ℕ)) → IsSome name → ReachesStore name ShelfFault → ⊥
shelf_is_before None named reached = nothing_named named
shelf_is_before (Some name) named reached = reached

no_memory : (name : Option (List ℕ)) → ReachesStore name OutOfMemory → ⊥
no_memory None reached = reached
no_memory (Some name) reached = reached

module _ (apart : OpenedIsNotUnopened) (one : UnopenedHasOneStatus) (files : List File) (raw : RawTables) (facts : Option (List ℕ)) where
  bad_answer : (answer : Result Said Halt) (text : List ℕ) → SaysUnopened (Some files) facts (Some raw) BadStore text → UnopenedAnswers (Some files) (Some raw) facts answer → ReachesStore facts (answer_status answer) → answer_status answer ≡ BadStore
  bad_answer (Ok said) text would h clear = one files facts raw said.status BadStore said.text text h would
  bad_answer (Err (halt.Stop stop.ShelfFault)) text would h clear = absurd (shelf_is_before facts h clear)
  bad_answer (Err (halt.Stop stop.ClockFault)) text would h clear = absurd h
  bad_answer (Err (halt.Stop stop.OutOfMemory)) text would h clear = absurd (no_memory facts clear)
  bad_answer (Err halt.KeeperFault) text would h clear = absurd clear

  bad_store : (kept : Kept) (tally : Tally) (left now written sent : Option (List ℕ)) (ended : Status) (text : List ℕ) → ReachesStore facts ended → SaysUnopened (Some files) facts (Some raw) BadStore text
      → SessionRun (Some files) (Some raw) kept tally facts left now written sent ended → ended ≡ BadStore
  bad_store kept tally left now written sent ended text clear would (inl e) = absurd (apart files facts raw e.opening BadStore text e.is_opening would)
  bad_store kept tally left now written sent ended text clear would (inr e) =
      let is = ended_is e.spoken.answer written sent ended e.spoken.concludes (λ is. reaches_not_write facts (subst (ReachesStore facts) is clear)) in
      is ∙ bad_answer e.spoken.answer text would e.spoken.answers (subst (ReachesStore facts) is clear)

-- a session without a facts file ends as it does over an empty shelf
answers_without : (files other : Option (List File)) (rows : Told) (answer : Result Said Halt) → UnopenedAnswers files rows None answer → UnopenedAnswers other rows None answer
answers_without files other rows (Ok said) h = h
answers_without files other rows (Err (halt.Stop stop.ShelfFault)) h = h
answers_without files other rows (Err (halt.Stop stop.ClockFault)) h = h
answers_without files other rows (Err (halt.Stop stop.OutOfMemory)) h = h
answers_without files other rows (Err halt.KeeperFault) h = h

no_files : (files other : Option (List File)) (rows : Told) (kept : Kept) (tally : Tally) (left now written sent : Option (List ℕ)) (ended : Status) → SessionRun files rows kept tally None left now written sent ended → SessionRun other rows kept tally None left now written sent ended
no_files files other rows kept tally left now written sent ended (inl e) = inl (record { opening = e.opening; is_opening = without_files files other rows e.opening e.is_opening; ends = e.ends })
no_files files other rows kept tally left now written sent ended (inr e) = inr (record {
  spoken = record {
    unread = e.spoken.unread;
    answer = e.spoken.answer;
    answers = answers_without files other rows e.spoken.answer e.spoken.answers;
    counted = e.spoken.counted;
    concludes = e.spoken.concludes;
  };
  stays = e.stays;
})

module _ (apart : OpenedIsNotUnopened) (one : UnopenedHasOneStatus) (kept : Kept) (tally : Tally) (left now written sent : Option (List ℕ)) (ended : Status) where
  bad_exactly : (files : Option (List File)) (rows : Told) (facts : Option (List ℕ)) (text : List ℕ) → TellsFacts files facts → IsSome rows → ReachesStore facts ended → SaysUnopened files facts rows BadStore text → SessionRun files rows kept tally facts left now written sent ended → ended ≡ BadStore
  bad_exactly files None facts text tells told clear would e = absurd (nothing_told told)
  bad_exactly (Some files) (Some raw) facts text tells told clear would e = bad_store apart one files raw facts kept tally left now written sent ended text clear would e
  bad_exactly None (Some raw) None text tells told clear would e = bad_store apart one [] raw None kept tally left now written sent ended text clear would (no_files None (Some []) (Some raw) kept tally left now written sent ended e)
  bad_exactly None (Some raw) (Some name) text tells told clear would e = absurd (nothing_shelved tells)

  module _ (read : ReadIsNotRefused) (refused : RefusedHasOneStatus) (files : Option (List File)) (rows : Told) (facts : Option (List ℕ)) (tells : TellsFacts files facts) (e : SessionRun files rows kept tally facts left now written sent ended) where
    by_facts : (status : Status) (text : List ℕ) → (SaysOfStore rows status text → ⊥) → IsFetched ended → SaysUnopened files facts rows status text → ended ≡ status
    by_facts status text none clear (inl said) = session_facts read refused files rows kept tally facts left now written sent ended status text tells clear said e
    by_facts status text none clear (inr said) = absurd (none said.1)

    comes : (status : Status) (text : List ℕ) → IsDeskless status → TellsStore rows status → ReachesDesk facts status ended → SaysUnopened files facts rows status text → ended ≡ status
    comes FileMissing text deskless told clear would = by_facts FileMissing text (λ h. h) clear would
    comes FileTooLong text deskless told clear would = by_facts FileTooLong text (λ h. h) clear would
    comes BadFacts text deskless told clear would = by_facts BadFacts text (λ h. h) clear would
    comes BadStore text deskless told clear would = bad_exactly files rows facts text tells told clear would e
    comes other text deskless told clear would = absurd deskless

    -- a session says why it has no desk exactly where it would
    pub deskless_exactly : (status : Status) → IsDeskless status → TellsStore rows status → ReachesDesk facts status ended → ((ended ≡ status) ↔ WouldNotOpen files rows facts status)
    deskless_exactly status deskless told clear =
        (deskless_would files rows kept tally facts left now written sent ended status deskless e, λ would. comes status would.0 deskless told clear would.1)

-- a session over an opened desk ends well or out of memory, if no device fails and its limits aren't passed
opened_is_done : (kept : Kept) (o : Opening) (s : State) (left now written sent : Option (List ℕ)) (status : Status) → SessionEnds kept o s left now written sent status → IsUnfailed status → status ≢ SessionTooLong → (status ≡ Fine) ⊎ (status ≡ OutOfMemory)
opened_is_done kept o s left now written sent Fine e a d = inl refl
opened_is_done kept o s left now written sent OutOfMemory e a d = inr refl
opened_is_done kept o s left now written sent SessionTooLong e a d = absurd (d refl)
opened_is_done kept o s left now written sent ReadFault e a d = absurd a
opened_is_done kept o s left now written sent WriteFault e a d = absurd a
opened_is_done kept o s left now written sent other e a d = absurd e

unfailed_not_write : (ended : Status) → IsUnfailed ended → ended ≢ WriteFault
unfailed_not_write ended clear is = no_write_failed (subst IsUnfailed is clear)
  where
    no_write_failed : IsUnfailed WriteFault → ⊥
    no_write_failed h = h

module _ (apart : OpenedIsNotUnopened) (files : List File) (raw : RawTables) (facts : Option (List ℕ)) (o : Opening) (opening : IsOpening (Some files) facts (Some raw) o) where
  starved_answer : (answer : Result Said Halt) → UnopenedAnswers (Some files) (Some raw) facts answer → IsUnfailed (answer_status answer) → answer_status answer ≡ OutOfMemory
  starved_answer (Ok said) h clear = absurd (apart files facts raw o said.status said.text opening h)
  starved_answer (Err (halt.Stop stop.ShelfFault)) h clear = absurd clear
  starved_answer (Err (halt.Stop stop.ClockFault)) h clear = absurd clear
  starved_answer (Err (halt.Stop stop.OutOfMemory)) h clear = refl
  starved_answer (Err halt.KeeperFault) h clear = absurd clear

  session_is_done : (kept : Kept) (tally : Tally) (left now written sent : Option (List ℕ)) (ended : Status) → IsUnfailed ended → ended ≢ SessionTooLong → SessionRun (Some files) (Some raw) kept tally facts left now written sent ended → (ended ≡ Fine) ⊎ (ended ≡ OutOfMemory)
  session_is_done kept tally left now written sent ended clear short (inl e) = opened_is_done kept e.opening begun left now written sent ended e.ends clear short
  session_is_done kept tally left now written sent ended clear short (inr e) =
      let is = ended_is e.spoken.answer written sent ended e.spoken.concludes (unfailed_not_write ended clear) in
      inr (is ∙ starved_answer e.spoken.answer e.spoken.answers (subst IsUnfailed is clear))

-- a session whose desk begins somewhere is done, unless a device fails or memory runs out
pub desk_is_used : OpenedIsNotUnopened → (files : Option (List File)) (rows : Told) (kept : Kept) (tally : Tally) (facts : Option (List ℕ)) (o : Opening) (left now written sent : Option (List ℕ)) (ended : Status) → TellsFacts files facts → IsSome rows → IsOpening files facts rows o
    → IsUnfailed ended → ended ≢ SessionTooLong → SessionRun files rows kept tally facts left now written sent ended → (ended ≡ Fine) ⊎ (ended ≡ OutOfMemory)
desk_is_used apart files None kept tally facts o left now written sent ended tells told opening clear short e = absurd (nothing_told told)
desk_is_used apart (Some files) (Some raw) kept tally facts o left now written sent ended tells told opening clear short e = session_is_done apart files raw facts o opening kept tally left now written sent ended clear short e
desk_is_used apart None (Some raw) kept tally None o left now written sent ended tells told opening clear short e =
    session_is_done apart [] raw None o (without_files None (Some []) (Some raw) o opening) kept tally left now written sent ended clear short (no_files None (Some []) (Some raw) kept tally left now written sent ended e)
desk_is_used apart None (Some raw) kept tally (Some name) o left now written sent ended tells told opening clear short e = absurd (nothing_shelved tells)
