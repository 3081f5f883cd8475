-- The exit status of a run. This project's own, after the exit statuses of spctl(8).
use Rattle.std.specs.Prelude.{ℕ}
use Rattle.run_status.specs.declared.status.Status.{Status}
use Rattle.run_status.specs.declared.status.Status.TheVariants.{Fine, Denied, Usage, OutOfMemory}

-- 0 where all was done, 3 where the code that was assessed is rejected, 2 for words that are no command, 4 where memory
-- ran out, and 1 for all else: a fault, a refusal, a file or an input that is too long
abbrev pub status_code : Status → ℕ
status_code Fine = 0
status_code Denied = 3
status_code Usage = 2
status_code OutOfMemory = 4
status_code other = 1
