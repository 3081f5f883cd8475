-- How a run ends whose command says one text. This project's own.
use Rattle.std.specs.Prelude.{◌≡◌, ℕ, List, [], Option, Result, Ok, Err, IfErr, ⊤}
use Rattle.std.specs.Io.KnownBytes.{Appends}
use Rattle.gk_io.specs.Faults.{Rose}
use Rattle.line_reader.specs.Lines.{with_lf}
use Rattle.run_status.specs.declared.said.Said.{Said}
use Rattle.run_status.specs.declared.stop.Stop.TheVariants as stop
use Rattle.run_status.specs.declared.status.Status.{Status}
use Rattle.run_status.specs.declared.status.Status.TheVariants.{ShelfFault, ClockFault, KeeperFault, OutOfMemory}
use Rattle.run_commands.specs.declared.halt.Halt.{Halt}
use Rattle.run_commands.specs.declared.halt.Halt.TheVariants as halt
use Rattle.spctl_cli.specs.LastLines.{shelf_fault_text, clock_fault_text, keeper_fault_text, IsEndedBy}

-- how often the shelf, the keeper and the clock had failed, before a run and after it
pub record Tally : Type 0 where
  pub shelf : ℕ
  pub shelf_now : ℕ
  pub keeper : ℕ
  pub keeper_now : ℕ
  pub clock : ℕ
  pub clock_now : ℕ

-- the same of these counts
abbrev pub tally_of : ℕ → ℕ → ℕ → ℕ → ℕ → ℕ → Tally
tally_of shelf shelf_now keeper keeper_now clock clock_now =
    record { shelf = shelf; shelf_now = shelf_now; keeper = keeper; keeper_now = keeper_now; clock = clock; clock_now = clock_now }

-- a device whose failure keeps a command from saying anything has counted it
abbrev pub IsCounted : Tally → Halt → Type 0
IsCounted tally (halt.Stop stop.ShelfFault) = Rose tally.shelf tally.shelf_now
IsCounted tally (halt.Stop stop.ClockFault) = Rose tally.clock tally.clock_now
IsCounted tally (halt.Stop stop.OutOfMemory) = ⊤
IsCounted tally halt.KeeperFault = Rose tally.keeper tally.keeper_now

-- how the run ends of a command that came to this: with what it says, or with the line of a device that failed, or of either a front, where
-- the sink failed; or out of memory with nothing
abbrev pub IsConcluded : Result Said Halt → Option (List ℕ) → Option (List ℕ) → Status → Type 0
IsConcluded (Ok said) written sent ended = IsEndedBy said.status said.text written sent ended
IsConcluded (Err (halt.Stop stop.ShelfFault)) written sent ended = IsEndedBy ShelfFault (with_lf shelf_fault_text) written sent ended
IsConcluded (Err (halt.Stop stop.ClockFault)) written sent ended = IsEndedBy ClockFault (with_lf clock_fault_text) written sent ended
IsConcluded (Err (halt.Stop stop.OutOfMemory)) written sent ended = (ended ≡ OutOfMemory) × Appends written sent []
IsConcluded (Err halt.KeeperFault) written sent ended = IsEndedBy KeeperFault (with_lf keeper_fault_text) written sent ended

-- how a run ends whose command came to something of this kind: nothing was read, a device that is told to have failed has counted it, and
-- what is said was written
pub record SpokenEnd (Answers : Result Said Halt → Type 0) (tally : Tally) (left now written sent : Option (List ℕ)) (status : Status) : Type 0 where
  pub unread : now ≡ left
  pub answer : Result Said Halt
  pub answers : Answers answer
  pub counted : IfErr answer (λ why. IsCounted tally why)
  pub concludes : IsConcluded answer written sent status
