-- From what a command came to, to how its run ends.
use Rattle.std.proofs.Common.{◌≡◌, ◌≢◌, ◌⊎◌, ℕ, List, Option, Result, Ok, Err, IfOk, inl, inr, refl, sym, ◌∙◌, subst}
use Rattle.gk_io.specs.Shelf.{File}
use Rattle.gk_io.specs.Devices.{Counts, PassesShelf, PassesClock}
use Rattle.run_status.specs.declared.said.Said.{Said}
use Rattle.run_status.specs.declared.stop.Stop.TheVariants as stop
use Rattle.run_status.specs.declared.status.Status.{Status}
use Rattle.run_status.specs.declared.status.Status.TheVariants.{WriteFault, ShelfFault, ClockFault, KeeperFault, OutOfMemory}
use Rattle.run_status.specs.Said.{IsSpoken}
use Rattle.run_commands.specs.declared.halt.Halt.{Halt}
use Rattle.run_commands.specs.declared.halt.Halt.TheVariants as halt
use Rattle.run_commands.specs.Spoken.{IsUttered}
use Rattle.spctl_cli.specs.Conclusions.{IsConcluded}
use Rattle.spctl_cli.specs.Statuses.{MayHide}

-- the status with which a command that came to this ends, unless the sink fails
abbrev pub answer_status : Result Said Halt → Status
answer_status (Ok said) = said.status
answer_status (Err (halt.Stop stop.ShelfFault)) = ShelfFault
answer_status (Err (halt.Stop stop.ClockFault)) = ClockFault
answer_status (Err (halt.Stop stop.OutOfMemory)) = OutOfMemory
answer_status (Err halt.KeeperFault) = KeeperFault

pub concluded_status : (answer : Result Said Halt) (written sent : Option (List ℕ)) (ended : Status) → IsConcluded answer written sent ended → (ended ≡ answer_status answer) ⊎ (ended ≡ WriteFault)
concluded_status (Ok said) written sent ended (inl whole) = inl whole.0
concluded_status (Ok said) written sent ended (inr front) = inr front.0
concluded_status (Err (halt.Stop stop.ShelfFault)) written sent ended (inl whole) = inl whole.0
concluded_status (Err (halt.Stop stop.ShelfFault)) written sent ended (inr front) = inr front.0
concluded_status (Err (halt.Stop stop.ClockFault)) written sent ended (inl whole) = inl whole.0
concluded_status (Err (halt.Stop stop.ClockFault)) written sent ended (inr front) = inr front.0
concluded_status (Err (halt.Stop stop.OutOfMemory)) written sent ended is = inl is.0
concluded_status (Err halt.KeeperFault) written sent ended (inl whole) = inl whole.0
concluded_status (Err halt.KeeperFault) written sent ended (inr front) = inr front.0

one_of : (ended status : Status) → ended ≢ WriteFault → (ended ≡ status) ⊎ (ended ≡ WriteFault) → ended ≡ status
one_of ended status apart (inl is) = is
one_of ended status apart (inr is) = absurd (apart is)

pub ended_is : (answer : Result Said Halt) (written sent : Option (List ℕ)) (ended : Status) → IsConcluded answer written sent ended → ended ≢ WriteFault → ended ≡ answer_status answer
ended_is answer written sent ended is apart = one_of ended (answer_status answer) apart (concluded_status answer written sent ended is)

-- what a run may end with that came to this, it may end with
either_way : (Own : Status → Type 0) (ended status : Status) → Own status → Own WriteFault → (ended ≡ status) ⊎ (ended ≡ WriteFault) → Own ended
either_way Own ended status own write (inl is) = subst Own (sym is) own
either_way Own ended status own write (inr is) = subst Own (sym is) write

pub own_end : (Own : Status → Type 0) (answer : Result Said Halt) (written sent : Option (List ℕ)) (ended : Status) → Own (answer_status answer) → Own WriteFault → IsConcluded answer written sent ended → Own ended
own_end Own answer written sent ended own write is = either_way Own ended (answer_status answer) own write (concluded_status answer written sent ended is)

-- a device's fault is told only where it was returned

pub shelf_said : (answer : Result Said Halt) → IfOk answer (λ said. IsUttered said.status) → answer_status answer ≡ ShelfFault → answer ≡ Err (halt.Stop stop.ShelfFault)
shelf_said (Ok said) uttered is = absurd (subst IsUttered is uttered)
shelf_said (Err (halt.Stop stop.ShelfFault)) uttered is = refl
shelf_said (Err (halt.Stop stop.ClockFault)) uttered is = absurd (cc)
shelf_said (Err (halt.Stop stop.OutOfMemory)) uttered is = absurd (cc)
shelf_said (Err halt.KeeperFault) uttered is = absurd (cc)

pub clock_said : (answer : Result Said Halt) → IfOk answer (λ said. IsUttered said.status) → answer_status answer ≡ ClockFault → answer ≡ Err (halt.Stop stop.ClockFault)
clock_said (Ok said) uttered is = absurd (subst IsUttered is uttered)
clock_said (Err (halt.Stop stop.ShelfFault)) uttered is = absurd (cc)
clock_said (Err (halt.Stop stop.ClockFault)) uttered is = refl
clock_said (Err (halt.Stop stop.OutOfMemory)) uttered is = absurd (cc)
clock_said (Err halt.KeeperFault) uttered is = absurd (cc)

pub keeper_said : (answer : Result Said Halt) → IfOk answer (λ said. IsUttered said.status) → answer_status answer ≡ KeeperFault → answer ≡ Err halt.KeeperFault
keeper_said (Ok said) uttered is = absurd (subst IsUttered is uttered)
keeper_said (Err (halt.Stop stop.ShelfFault)) uttered is = absurd (cc)
keeper_said (Err (halt.Stop stop.ClockFault)) uttered is = absurd (cc)
keeper_said (Err (halt.Stop stop.OutOfMemory)) uttered is = absurd (cc)
keeper_said (Err halt.KeeperFault) uttered is = refl

shelf_or_write : (ended : Status) → ended ≡ ShelfFault → ended ≢ WriteFault
shelf_or_write ended is other = let no : ShelfFault ≡ WriteFault = sym is ∙ other in absurd (cc)

clock_or_write : (ended : Status) → ended ≡ ClockFault → ended ≢ WriteFault
clock_or_write ended is other = let no : ClockFault ≡ WriteFault = sym is ∙ other in absurd (cc)

keeper_or_write : (ended : Status) → ended ≡ KeeperFault → ended ≢ WriteFault
keeper_or_write ended is other = let no : KeeperFault ≡ WriteFault = sym is ∙ other in absurd (cc)

pub counts_for : (Says May Tells Might : Type 0) (before now : ℕ) → (Tells → Says) → ((Might → ⊥) → May → ⊥) → Counts Says May before now → Counts Tells Might before now
counts_for Says May Tells Might before now says may counts = record {
  later = counts.later;
  cause = λ tells. counts.cause (says tells);
  steady = λ none. counts.steady (may none);
}

-- what holds of a device by what the command returned holds by the end of the run, where the command asks for that device if it returns
-- the device's fault
module _ (answer : Result Said Halt) (uttered : IfOk answer (λ said. IsUttered said.status)) (written sent : Option (List ℕ)) (ended : Status) (is : IsConcluded answer written sent ended) where
  pub shelf_ended : (Asks : Type 0) (files kept : Option (List File)) (before now : ℕ) → (answer ≡ Err (halt.Stop stop.ShelfFault) → Asks) → PassesShelf (answer ≡ Err (halt.Stop stop.ShelfFault)) (answer ≡ Err (halt.Stop stop.ShelfFault)) files kept before now
      → PassesShelf (ended ≡ ShelfFault) (Asks × MayHide ShelfFault ended) files kept before now
  shelf_ended Asks files kept before now asks passes = record {
    kept = passes.kept;
    counts = counts_for _ _ (ended ≡ ShelfFault) (Asks × MayHide ShelfFault ended) before now
        (λ told. shelf_said answer uttered (sym (ended_is answer written sent ended is (shelf_or_write ended told)) ∙ told))
        (λ none may. none (asks may, subst (λ a. (ended ≡ answer_status a) ⊎ (ended ≡ WriteFault)) may (concluded_status answer written sent ended is))) passes.counts;
  }

  pub clock_ended : (Asks : Type 0) (moments next : Option (List ℕ)) (before now : ℕ) → (answer ≡ Err (halt.Stop stop.ClockFault) → Asks) → PassesClock (answer ≡ Err (halt.Stop stop.ClockFault)) (answer ≡ Err (halt.Stop stop.ClockFault)) moments next before now
      → PassesClock (ended ≡ ClockFault) (Asks × MayHide ClockFault ended) moments next before now
  clock_ended Asks moments next before now asks passes = record {
    telling = passes.telling;
    counts = counts_for _ _ (ended ≡ ClockFault) (Asks × MayHide ClockFault ended) before now
        (λ told. clock_said answer uttered (sym (ended_is answer written sent ended is (clock_or_write ended told)) ∙ told))
        (λ none may. none (asks may, subst (λ a. (ended ≡ answer_status a) ⊎ (ended ≡ WriteFault)) may (concluded_status answer written sent ended is))) passes.counts;
  }

  pub keeper_ended : (May Might : Type 0) (before now : ℕ) → (May → Might) → (answer ≡ Err halt.KeeperFault → MayHide KeeperFault ended → Might) → Counts (answer ≡ Err halt.KeeperFault) (May ⊎ (answer ≡ Err halt.KeeperFault)) before now → Counts (ended ≡ KeeperFault) Might before now
  keeper_ended May Might before now may hidden counts =
      counts_for _ _ (ended ≡ KeeperFault) Might before now
      (λ told. keeper_said answer uttered (sym (ended_is answer written sent ended is (keeper_or_write ended told)) ∙ told))
      (λ none either. none (one_way either)) counts
    where
      one_way : May ⊎ (answer ≡ Err halt.KeeperFault) → Might
      one_way (inl made) = may made
      one_way (inr halted) = hidden halted (subst (λ a. (ended ≡ answer_status a) ⊎ (ended ≡ WriteFault)) halted (concluded_status answer written sent ended is))

  pub keeper_ended_alone : (Might : Type 0) (before now : ℕ) → (answer ≡ Err halt.KeeperFault → MayHide KeeperFault ended → Might) → Counts (answer ≡ Err halt.KeeperFault) (answer ≡ Err halt.KeeperFault) before now → Counts (ended ≡ KeeperFault) Might before now
  keeper_ended_alone Might before now hidden counts =
      counts_for _ _ (ended ≡ KeeperFault) Might before now
      (λ told. keeper_said answer uttered (sym (ended_is answer written sent ended is (keeper_or_write ended told)) ∙ told))
      (λ none halted. none (hidden halted (subst (λ a. (ended ≡ answer_status a) ⊎ (ended ≡ WriteFault)) halted (concluded_status answer written sent ended is)))) counts

spoken_is_uttered : (status : Status) → IsSpoken status → IsUttered status
spoken_is_uttered OutOfMemory spoken = absurd spoken
spoken_is_uttered other spoken = spoken

-- what may be said of a run may be said by a command on the rules
pub spoken_uttered : (returned : Result Said Halt) → IfOk returned (λ said. IsSpoken said.status) → IfOk returned (λ said. IsUttered said.status)
spoken_uttered (Ok said) spoken = spoken_is_uttered said.status spoken
spoken_uttered (Err why) spoken = tt
