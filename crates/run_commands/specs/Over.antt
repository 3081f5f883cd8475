-- What comes of a command on the rules over a desk that was opened for it. This project's own.
use Rattle.std.specs.Prelude.{◌≡◌, ◌⊎◌, ℕ, List, Option, Result, IfOk, IfErr, IsSome, ⊤}
use Rattle.gk_io.specs.Shelf.{File}
use Rattle.policy_model.specs.History.{Opening}
use Rattle.policy_keeper.specs.Told.{Told, Stays}
use Rattle.desk_state.specs.Failures.{Kept}
use Rattle.run_status.specs.declared.said.Said as code_said
use Rattle.run_status.specs.declared.stop.Stop.TheVariants.{ShelfFault, ClockFault, OutOfMemory}
use Rattle.command_words.specs.Table.{TableCommand, edit, status, list, import_file}
use Rattle.run_commands.specs.declared.halt.Halt.{Halt}
use Rattle.run_commands.specs.declared.halt.Halt.TheVariants.{Stop, KeeperFault}
use Rattle.run_commands.specs.Says.{TableSays}
use Rattle.run_commands.specs.Answers.{IsImport, MakesNone}

-- the command makes edits
abbrev pub MakesEdits : TableCommand → Type 0
MakesEdits (edit line) = ⊤
MakesEdits status = ⊥
MakesEdits list = ⊥
MakesEdits (import_file name) = ⊤

-- why a command with a desk says nothing: the keeper is loaded already
abbrev pub OverHalts : TableCommand → Halt → Type 0
OverHalts command (Stop ShelfFault) = IsImport command
OverHalts command (Stop ClockFault) = ⊥
OverHalts command (Stop OutOfMemory) = ⊤
OverHalts command KeeperFault = ⊥

-- what comes of a command over a desk that begins at o, beside a keeper that told these rows
pub record OverDesk (files : Option (List File)) (rows : Told) (kept : Kept) (command : TableCommand) (o : Opening) (answer : Result code_said.Said Halt) : Type 0 where
  pub telling : IsSome kept.told → IsSome rows
  pub says : IfOk answer (λ said. TableSays files kept command o said.status said.text)
  pub halts : IfErr answer (λ why. OverHalts command why)
  pub unmade : MakesNone command answer → Stays rows kept.told
