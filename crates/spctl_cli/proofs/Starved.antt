-- A run that found no memory for its words has read and written nothing, and asked nobody.
use Rattle.std.proofs.Common.{◌≡◌, ℕ, List, [], Option, None, Some, Result, Err, inl, inr, refl, sym, subst}
use Rattle.std.proofs.lemmas.List.{append-nil}
use Rattle.std.specs.Io.KnownBytes.{Appends}
use Rattle.gk_io.specs.Shelf.{File}
use Rattle.store_model.specs.Raw.{RawTables}
use Rattle.policy_keeper.specs.Told.{Told, Stays}
use Rattle.run_status.specs.declared.said.Said.{Said}
use Rattle.run_status.specs.declared.stop.Stop.TheVariants as stop
use Rattle.run_status.specs.declared.status.Status.TheVariants.{OutOfMemory}
use Rattle.desk_opening.specs.Opens.{TellsTheSame, IsLoaded}
use Rattle.command_words.specs.Table.{FileCommand, compile, compile_set, dump, assess, TableCommand, edit, status, list, import_file, Command, session, on_files, on_tables, rehearse}
use Rattle.command_words.specs.Lines.{CommandLine}
use Rattle.desk_state.specs.Failures.{Kept}
use Rattle.run_commands.specs.declared.halt.Halt.{Halt}
use Rattle.run_commands.specs.declared.halt.Halt.TheVariants as halt
use Rattle.run_commands.specs.Answers.{FilesAnswer, TablesAnswer}
use Rattle.spctl_cli.specs.Conclusions.{Tally, SpokenEnd}
use Rattle.spctl_cli.specs.Statuses.{IsOwn, IsOfCommand}
use Rattle.spctl_cli.specs.Ends.{CommandEnds, RunEnds}

appends_nothing : (written : Option (List ℕ)) → Appends written written []
appends_nothing None = tt
appends_nothing (Some bytes) = sym (append-nil bytes)

pub stays_same : (told : Told) → Stays told told
stays_same None = tt
stays_same (Some raw) = refl

same_rows : (told : Told) → TellsTheSame told told
same_rows None = tt
same_rows (Some raw) = refl

-- rows of a keeper that wasn't asked
pub loaded_same : (told : Told) → IsLoaded told told told
loaded_same told = record { same = same_rows told; telling = λ t. t }

-- and of one that was asked for them alone
pub loaded_last : (before now : Told) → TellsTheSame before now → IsLoaded before now now
loaded_last before now same = record { same = same; telling = λ t. t }

pub starved : (Answers : Result Said Halt → Type 0) (tally : Tally) (left written : Option (List ℕ)) → Answers (Err (halt.Stop stop.OutOfMemory)) → SpokenEnd Answers tally left left written written OutOfMemory
starved Answers tally left written h = record { unread = refl; answer = Err (halt.Stop stop.OutOfMemory); answers = h; counted = tt; concludes = (refl, appends_nothing written) }

files_starved : (files : Option (List File)) (moments : Option (List ℕ)) (rows : Told) (facts : Option (List ℕ)) (command : FileCommand) → FilesAnswer files moments rows facts command (Err (halt.Stop stop.OutOfMemory))
files_starved files moments rows facts (compile name) = tt
files_starved files moments rows facts (compile_set name) = tt
files_starved files moments rows facts (dump name) = tt
files_starved files moments rows facts (assess kind name code) = tt

module _ (files : Option (List File)) (moments : Option (List ℕ)) (kept : Kept) (tally : Tally) (left written : Option (List ℕ)) where
  command_starved : (facts : Option (List ℕ)) (command : Command) → CommandEnds files moments kept.told kept tally facts command left left written written OutOfMemory
  command_starved facts session = inr (record { spoken = starved _ tally left written tt; stays = stays_same kept.told })
  command_starved facts (on_files command) = record { spoken = starved _ tally left written (files_starved files moments kept.told facts command); stays = stays_same kept.told }
  command_starved facts (on_tables command) = starved _ tally left written (record { says = tt; halts = tt; unmade = λ made. stays_same kept.told })
  command_starved facts (rehearse steps) = starved _ tally left written refl

  pub run_starved : (line : Option CommandLine) → RunEnds files moments kept.told kept tally line left left written written OutOfMemory
  run_starved None = record { unread = refl; put = appends_nothing written }
  run_starved (Some line) = command_starved line.facts line.command

command_own : (command : Command) → IsOfCommand command OutOfMemory
command_own session = tt
command_own (on_files (compile name)) = tt
command_own (on_files (compile_set name)) = tt
command_own (on_files (dump name)) = tt
command_own (on_files (assess kind name code)) = tt
command_own (on_tables (edit line)) = tt
command_own (on_tables status) = tt
command_own (on_tables list) = tt
command_own (on_tables (import_file name)) = tt
command_own (rehearse steps) = tt

pub starved_own : (line : Option CommandLine) → IsOwn line OutOfMemory
starved_own None = tt
starved_own (Some line) = command_own line.command
