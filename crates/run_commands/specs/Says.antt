-- What each command but a session says. This project's own.
use Rattle.std.specs.Prelude.{◌≡◌, ℕ, ◌⊎◌, List, [], Option, None}
use Rattle.gk_io.specs.Shelf.{File}
use Rattle.policy_model.specs.Tables.{Tables}
use Rattle.policy_model.specs.History.{Event, Opening, tables_of}
use Rattle.req_grammar.specs.declared.limits.TheConstants.{MOST_TEXT_BYTES}
use Rattle.req_blob.specs.declared.limits.TheConstants.{MOST_BYTES}
use Rattle.policy_keeper.specs.Told.{Told}
use Rattle.policy_keeper.specs.Mirror.{Mirrors}
use Rattle.desk_state.specs.Failures.{Kept, Shows}
use Rattle.run_status.specs.declared.status.Status.{Status}
use Rattle.run_status.specs.Files.{SaysOnFile}
use Rattle.language_commands.specs.Compiling.{Compiles}
use Rattle.language_commands.specs.CompilingSets.{CompilesSet}
use Rattle.language_commands.specs.Dumping.{Dumps}
use Rattle.file_assessment.specs.Assessing.{SaysAssess}
use Rattle.table_commands.specs.EditSays.{SaysEdit}
use Rattle.table_commands.specs.ImportSays.{SaysImport}
use Rattle.table_commands.specs.TableSays.{SaysStatus, SaysList}
use Rattle.desk_opening.specs.Opens.{IsOpening, SaysUnopened}
use Rattle.command_words.specs.Table as table
use Rattle.command_words.specs.Table.{FileCommand, compile, compile_set, dump, assess, TableCommand}

-- what is said over a desk: what is said where there is none, or what one says that begins so
abbrev pub DeskSays : Option (List File) → Option (List ℕ) → Told → (Opening → Status → List ℕ → Type 0) → Status → List ℕ → Type 0
DeskSays files facts rows Says status text =
    SaysUnopened files facts rows status text ⊎ ((o : Opening) × IsOpening files facts rows o × Says o status text)

-- something is said and has happened since the opening o, and the keeper has the tables after it; at most as many edits failed as its
-- count shows
pub record Does (kept : Kept) (Says : List Event → Type 0) (o : Opening) : Type 0 where
  pub after : List Event
  pub says : Says after
  pub mirrors : Mirrors kept.told (tables_of o after)
  pub shows : Shows [] after kept.before kept.counted

-- what a command on files says, by its status, over the files of the shelf and the moments of the clock; an assessment by a desk with
-- the run's facts and the keeper's rows
abbrev pub FilesSay : Option (List File) → Option (List ℕ) → Told → Option (List ℕ) → FileCommand → Status → List ℕ → Type 0
FilesSay files moments rows facts (compile name) status text = SaysOnFile Compiles files name MOST_TEXT_BYTES status text
FilesSay files moments rows facts (compile_set name) status text = SaysOnFile CompilesSet files name MOST_TEXT_BYTES status text
FilesSay files moments rows facts (dump name) status text = SaysOnFile Dumps files name MOST_BYTES status text
FilesSay files moments rows facts (assess kind name code) status text =
    DeskSays files facts rows (λ o. SaysAssess o [] files moments kind name code) status text

-- what a command on the rules says, by its status, over a desk that begins at o; kept is what the keeper then tells, and its counts
abbrev pub TableSays : Option (List File) → Kept → TableCommand → Opening → Status → List ℕ → Type 0
TableSays files kept (table.edit line) o end text = Does kept (λ after. SaysEdit o [] line end text after) o
TableSays files kept table.status o end text = SaysStatus o [] end text
TableSays files kept table.list o end text = SaysList o [] end text
TableSays files kept (table.import_file name) o end text = Does kept (λ after. SaysImport o [] files name end text after) o

-- what a command on the rules says, by its status, over the rows of the keeper; it asks for no facts
abbrev pub TablesSay : Option (List File) → Told → Kept → TableCommand → Status → List ℕ → Type 0
TablesSay files rows kept command status text = DeskSays files None rows (TableSays files kept command) status text
