-- All that is promised of a run over the rows that the keeper told when its load had answered. This project's own.
use Rattle.std.specs.Prelude.{◌≡◌, ◌≢◌, ◌↔◌, ℕ, ◌^◌, List, Option}
use Rattle.gk_io.specs.Faults.{CanRise, Rose}
use Rattle.gk_io.specs.Shelf.{File}
use Rattle.policy_keeper.specs.Told.{Told}
use Rattle.desk_state.specs.Failures.{Kept}
use Rattle.run_status.specs.declared.status.Status.{Status}
use Rattle.run_status.specs.declared.status.Status.TheVariants.{WriteFault}
use Rattle.desk_opening.specs.Opens.{IsLoaded}
use Rattle.command_words.specs.Lines.{CommandLine}
use Rattle.spctl_cli.specs.Conclusions.{Tally}
use Rattle.spctl_cli.specs.Statuses.{IsOwn}
use Rattle.spctl_cli.specs.Ends.{RunEnds}
use Rattle.spctl_cli.specs.Causes.{Causes}

-- over some rows, which the keeper told when its load had answered, the run ended as it may, and for its cause
pub record Ran (files : Option (List File)) (moments : Option (List ℕ)) (told : Told) (kept : Kept) (tally : Tally) (line : Option CommandLine) (left now written sent : Option (List ℕ)) (ended : Status) : Type 0 where
  pub rows : Told
  pub loaded : IsLoaded told rows kept.told
  pub ends : RunEnds files moments rows kept tally line left now written sent ended
  pub causes : Causes files moments rows kept line left ended

-- a device's fault is the end exactly where its count rose, if that can rise, and unless the sink failed
abbrev pub IsExactly : Status → Status → ℕ → ℕ → Type 0
IsExactly fault ended before now = CanRise before → ended ≢ WriteFault → ((ended ≡ fault) ↔ Rose before now)
