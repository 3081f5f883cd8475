-- The lines that end the output of a run, each without its LF. This project's own.
use Rattle.std.specs.Prelude.{◌≡◌, ℕ, ◌⊎◌, List, Option, codes}
use Rattle.std.specs.Io.KnownBytes.{Appends}
use Rattle.gk_io.specs.Told.{AppendsFront}
use Rattle.run_status.specs.declared.status.Status.{Status}
use Rattle.run_status.specs.declared.status.Status.TheVariants.{WriteFault}

-- how the program is called, where the words are no command
abbrev pub usage_text : List ℕ
usage_text = codes "usage: gatekeeper [--facts NAME] STORE COMMAND [WORDS]"

-- the input failed
abbrev pub read_fault_text : List ℕ
read_fault_text = codes "fault ReadFault"

-- the input ran past the limits of a session
abbrev pub too_long_text : List ℕ
too_long_text = codes "fault SessionTooLong"

-- the files failed
abbrev pub shelf_fault_text : List ℕ
shelf_fault_text = codes "fault ShelfFault"

-- the clock failed
abbrev pub clock_fault_text : List ℕ
clock_fault_text = codes "fault ClockFault"

-- the keeper failed as its tables were loaded
abbrev pub keeper_fault_text : List ℕ
keeper_fault_text = codes "fault KeeperFault"

-- the run ended with this status once the sink gained this text; or the sink failed at it, and gained a front of it
abbrev pub IsEndedBy : Status → List ℕ → Option (List ℕ) → Option (List ℕ) → Status → Type 0
IsEndedBy status text old new ended = ((ended ≡ status) × Appends old new text) ⊎ ((ended ≡ WriteFault) × AppendsFront old new text)
