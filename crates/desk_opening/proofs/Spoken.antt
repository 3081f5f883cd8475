-- What is said where a run has no desk is said with one of four statuses.
use Rattle.std.proofs.Common.{ℕ, List, Option, None, Some, inl, inr}
use Rattle.gk_io.specs.Shelf.{File}
use Rattle.policy_keeper.specs.Told.{Told}
use Rattle.run_status.specs.declared.status.Status.{Status}
use Rattle.run_status.specs.declared.status.Status.TheVariants.{FileMissing, FileTooLong, BadFacts, BadStore}
use Rattle.run_status.specs.Said.{IsSpoken}
use Rattle.run_status.specs.Files.{SaysWithoutFile}
use Rattle.desk_opening.specs.declared.limits.TheConstants.{MOST_FACTS_BYTES}
use Rattle.desk_opening.specs.Facts.{SaysBadFacts, SaysOfFacts}
use Rattle.desk_opening.specs.Opens.{SaysOfStore}
use Rattle.desk_opening.specs.Laws.{IsDeskless, UnopenedIsDeskless, UnopenedIsSpoken}

without_deskless : (files : Option (List File)) (name : List ℕ) (status : Status) (text : List ℕ) → SaysWithoutFile files name MOST_FACTS_BYTES status text → IsDeskless status
without_deskless files name FileMissing text h = tt
without_deskless files name FileTooLong text h = tt
without_deskless files name other text h = absurd h

bad_facts_deskless : (bytes : List ℕ) (status : Status) (text : List ℕ) → SaysBadFacts bytes status text → IsDeskless status
bad_facts_deskless bytes BadFacts text h = tt
bad_facts_deskless bytes other text h = absurd h

store_deskless : (told : Told) (status : Status) (text : List ℕ) → SaysOfStore told status text → IsDeskless status
store_deskless told BadStore text h = tt
store_deskless told other text h = absurd h

facts_deskless : (files : Option (List File)) (name : Option (List ℕ)) (status : Status) (text : List ℕ) → SaysOfFacts files name status text → IsDeskless status
facts_deskless files None status text h = absurd h
facts_deskless files (Some name) status text (inl h) = without_deskless files name status text h
facts_deskless files (Some name) status text (inr h) = bad_facts_deskless h.0 status text h.2

pub unopened_is_deskless : UnopenedIsDeskless
unopened_is_deskless files name told status text (inl h) = facts_deskless files name status text h
unopened_is_deskless files name told status text (inr h) = store_deskless told status text h.1

deskless_spoken : (status : Status) → IsDeskless status → IsSpoken status
deskless_spoken FileMissing deskless = tt
deskless_spoken FileTooLong deskless = tt
deskless_spoken BadFacts deskless = tt
deskless_spoken BadStore deskless = tt
deskless_spoken other deskless = absurd deskless

pub unopened_is_spoken : UnopenedIsSpoken
unopened_is_spoken files name told status text h = deskless_spoken status (unopened_is_deskless files name told status text h)
