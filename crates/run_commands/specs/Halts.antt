-- From why a run has no desk, or why its command stopped, to what is said of it. This project's own.
use Rattle.std.specs.Prelude.{◌≡◌, Result, Ok, Err}
use Rattle.run_status.specs.declared.said.Said as code_said
use Rattle.run_status.specs.declared.stop.Stop as code_stop
use Rattle.run_status.specs.declared.stop.Stop.TheVariants as memory
use Rattle.desk_opening.specs.declared.unopened.Unopened.{Unopened}
use Rattle.desk_opening.specs.declared.unopened.Unopened.TheVariants.{Said, Stop, KeeperFault}
use Rattle.run_commands.specs.declared.halt.Halt.{Halt}
use Rattle.run_commands.specs.declared.halt.Halt.TheVariants as halt

-- what is said is said, and else nothing is, for the same reason
abbrev pub IsUnsaid : Unopened → Result code_said.Said Halt → Type 0
IsUnsaid (Said said) result = result ≡ Ok said
IsUnsaid (Stop why) result = result ≡ Err (halt.Stop why)
IsUnsaid KeeperFault result = result ≡ Err halt.KeeperFault

-- and so it is with what a command says, or why it stopped
abbrev pub IsHalted : Result code_said.Said code_stop.Stop → Result code_said.Said Halt → Type 0
IsHalted (Ok said) result = result ≡ Ok said
IsHalted (Err why) result = result ≡ Err (halt.Stop why)

-- and with what a command says, or finds no memory for
abbrev pub IsStarved : {E : Type 0} → Result code_said.Said E → Result code_said.Said Halt → Type 0
IsStarved (Ok said) result = result ≡ Ok said
IsStarved (Err fault) result = result ≡ Err (halt.Stop memory.OutOfMemory)
