-- With which status a command on the rules may say something. This project's own.
use Rattle.run_status.specs.declared.status.Status.{Status}
use Rattle.run_status.specs.declared.status.Status.TheVariants.{OutOfMemory}
use Rattle.run_status.specs.Said.{IsSpoken}

-- an import may say its first replies where memory ran out behind them
abbrev pub IsUttered : Status → Type 0
IsUttered OutOfMemory = Unit {0}
IsUttered other = IsSpoken other
