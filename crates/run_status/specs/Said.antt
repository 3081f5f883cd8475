-- What a command may say. This project's own.
use Rattle.run_status.specs.declared.status.Status.{Status}
use Rattle.run_status.specs.declared.status.Status.TheVariants.{Fine, Denied, FileMissing, FileTooLong, BadFacts, BadStore, Refused}

-- a command may say something with this status: no device failed, memory didn't run out, and the words are a command
abbrev pub IsSpoken : Status → Type 0
IsSpoken Fine = Unit {0}
IsSpoken Denied = Unit {0}
IsSpoken FileMissing = Unit {0}
IsSpoken FileTooLong = Unit {0}
IsSpoken BadFacts = Unit {0}
IsSpoken BadStore = Unit {0}
IsSpoken Refused = Unit {0}
IsSpoken other = ⊥
