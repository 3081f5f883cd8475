-- What a command on the rules says has one status, where no edit failed.
use Rattle.std.proofs.Common.{◌≡◌, ◌≢◌, ◌≤◌, ℕ, ◌⊎◌, List, [], Option, None, Some, inl, inr, refl, sym, ap, ◌∙◌, subst}
use Rattle.std.specs.Prelude.{IsSome}
use Rattle.std.specs.List.{list_any}
use Rattle.gk_io.specs.Shelf.{File, file_named}
use Rattle.policy_model.specs.Contents.{Edit}
use Rattle.policy_model.specs.History.{Event, Opening}
use Rattle.store_model.specs.Raw.{RawTables}
use Rattle.policy_keeper.specs.Told.{Told}
use Rattle.desk_state.specs.Failures.{failures, Kept}
use Rattle.desk_opening.specs.Opens.{IsOpening}
use Rattle.run_status.specs.declared.status.Status.{Status}
use Rattle.run_status.specs.declared.status.Status.TheVariants.{Fine, Denied, Usage, ReadFault, WriteFault, ShelfFault, ClockFault, KeeperFault, FileMissing, FileTooLong, BadFacts, BadStore, Refused, SessionTooLong, OutOfMemory}
use Rattle.desk_opening.specs.Laws.{OneOpening, OpenedIsNotUnopened, UnopenedHasOneStatus}
use Rattle.line_laws.specs.Laws.{LineAsksForOneEdit, EditHasNoFault}
use Rattle.import_csv.specs.Laws.{ImportIsOne, ImportHasNoFault}
use Rattle.command_words.specs.Table.{TableCommand}
use Rattle.command_words.specs.Table as table
use Rattle.table_commands.specs.declared.limits.TheConstants.{MOST_IMPORT_BYTES}
use Rattle.table_commands.specs.Replies.{EditsReply, is_refusal, refused_when}
use Rattle.table_commands.specs.EditSays.{SaysEdit}
use Rattle.table_commands.specs.ImportSays.{IsRefused, IsDone, Imports, SaysImport}
use Rattle.run_commands.specs.Says.{TableSays, TablesSay}
use Rattle.run_commands.specs.Laws.{IsSteady, TellsImport, TablesHaveOneStatus}
use Rattle.run_commands.proofs.OneReply.{none_failed, one_line, one_list}
use Rattle.run_commands.proofs.OneStatus.{nothing_told, same_bytes, without, there, one_without}

-- the bytes of an import

abbrev Settled : Opening → List Event → List ℕ → Status → List ℕ → Type 0
Settled o after bytes status text = IsRefused [] bytes status text after ⊎ IsDone o [] bytes status text after

settled : (o : Opening) (after : List Event) (bytes : List ℕ) (status : Status) (text : List ℕ) → Imports o [] after bytes status text → status ≢ OutOfMemory → Settled o after bytes status text
settled o after bytes Fine text h other = h
settled o after bytes Denied text h other = h
settled o after bytes Usage text h other = h
settled o after bytes ReadFault text h other = h
settled o after bytes WriteFault text h other = h
settled o after bytes ShelfFault text h other = h
settled o after bytes ClockFault text h other = h
settled o after bytes KeeperFault text h other = h
settled o after bytes FileMissing text h other = h
settled o after bytes FileTooLong text h other = h
settled o after bytes BadFacts text h other = h
settled o after bytes BadStore text h other = h
settled o after bytes Refused text h other = h
settled o after bytes SessionTooLong text h other = h
settled o after bytes OutOfMemory text h other = absurd (other refl)

module _ (one : ImportIsOne) (apart : ImportHasNoFault) (o : Opening) (after other : List Event) (few : failures after ≤ 0) (less : failures other ≤ 0) where
  one_done : (bytes : List ℕ) (first second : Status) (said again : List ℕ) → IsDone o [] bytes first said after → IsDone o [] bytes second again other → first ≡ second
  one_done bytes first second said again a b =
      let same = one bytes a.edits b.edits a.file b.file in
      let answers = subst (λ (es : List Edit). EditsReply o [] es a.replies after) same a.answers in
      let replies = one_list o [] b.edits a.replies b.replies after other answers b.answers few less in
      a.status_is ∙ ap (λ (rs : List (List ℕ)). refused_when (list_any is_refusal rs)) replies ∙ sym b.status_is

  one_settled : (bytes : List ℕ) (first second : Status) (said again : List ℕ) → Settled o after bytes first said → Settled o other bytes second again → first ≡ second
  one_settled bytes first second said again (inl a) (inl b) = a.status_is ∙ sym b.status_is
  one_settled bytes first second said again (inl a) (inr b) = absurd (apart bytes b.edits a.fault b.file a.first)
  one_settled bytes first second said again (inr a) (inl b) = absurd (apart bytes a.edits b.fault a.file b.first)
  one_settled bytes first second said again (inr a) (inr b) = one_done bytes first second said again a b

  one_import : (files : List File) (name : List ℕ) (first second : Status) (said again : List ℕ) → first ≢ OutOfMemory → second ≢ OutOfMemory
      → SaysImport o [] (Some files) name first said after → SaysImport o [] (Some files) name second again other → first ≡ second
  one_import files name first second said again p q (inl a) (inl b) =
      one_without files name MOST_IMPORT_BYTES first second (without files name MOST_IMPORT_BYTES first said a.says) (without files name MOST_IMPORT_BYTES second again b.says)
  one_import files name first second said again p q (inl a) (inr b) = absurd (there files name MOST_IMPORT_BYTES first b.bytes (without files name MOST_IMPORT_BYTES first said a.says) b.file.0 b.file.1)
  one_import files name first second said again p q (inr a) (inl b) = absurd (there files name MOST_IMPORT_BYTES second a.bytes (without files name MOST_IMPORT_BYTES second again b.says) a.file.0 a.file.1)
  one_import files name first second said again p q (inr a) (inr b) =
      let same = same_bytes (file_named files name) a.bytes b.bytes a.file.0 b.file.0 in
      one_settled b.bytes first second said again (subst (λ (bytes : List ℕ). Settled o after bytes first said) same (settled o after a.bytes first said a.says p)) (settled o other b.bytes second again b.says q)

one_edit : LineAsksForOneEdit → EditHasNoFault → (o : Opening) (line : List ℕ) (first second : Status) (said again : List ℕ) (after other : List Event) → failures after ≤ 0 → failures other ≤ 0
    → SaysEdit o [] line first said after → SaysEdit o [] line second again other → first ≡ second
one_edit one apart o line first second said again after other few less a b =
    a.says.status_is ∙ ap refused_when (one_line one apart o line a.asked b.asked a.says.reply b.says.reply after other a.asks b.asks a.says.replies b.says.replies few less) ∙ sym b.says.status_is

module _ (line_one : LineAsksForOneEdit) (line_apart : EditHasNoFault) (import_one : ImportIsOne) (import_apart : ImportHasNoFault) (files : List File) (kept others : Kept) (steady : IsSteady kept) (still : IsSteady others) where
  one_said : (command : TableCommand) (o : Opening) (first second : Status) (said again : List ℕ) → first ≢ OutOfMemory → second ≢ OutOfMemory
      → TableSays (Some files) kept command o first said → TableSays (Some files) others command o second again → first ≡ second
  one_said (table.edit line) o first second said again p q a b =
      one_edit line_one line_apart o line first second said again a.after b.after (none_failed kept a.after steady a.shows) (none_failed others b.after still b.shows) a.says b.says
  one_said table.status o first second said again p q a b = a.status_is ∙ sym b.status_is
  one_said table.list o first second said again p q a b = a.status_is ∙ sym b.status_is
  one_said (table.import_file name) o first second said again p q a b =
      one_import import_one import_apart o a.after b.after (none_failed kept a.after steady a.shows) (none_failed others b.after still b.shows) files name first second said again p q a.says b.says

  module _ (one : OneOpening) (apart : OpenedIsNotUnopened) (unopened : UnopenedHasOneStatus) (raw : RawTables) (command : TableCommand) where
    one_over : (first second : Status) (said again : List ℕ) → first ≢ OutOfMemory → second ≢ OutOfMemory → TablesSay (Some files) (Some raw) kept command first said → TablesSay (Some files) (Some raw) others command second again → first ≡ second
    one_over first second said again p q (inl a) (inl b) = unopened files None raw first second said again a b
    one_over first second said again p q (inl a) (inr b) = absurd (apart files None raw b.0 first said b.1 a)
    one_over first second said again p q (inr a) (inl b) = absurd (apart files None raw a.0 second again a.1 b)
    one_over first second said again p q (inr a) (inr b) =
        one_said command b.0 first second said again p q (subst (λ (o : Opening). TableSays (Some files) kept command o first said) (one files None raw a.0 b.0 a.1 b.1) a.2) b.2

tables_told : OneOpening → OpenedIsNotUnopened → UnopenedHasOneStatus → LineAsksForOneEdit → EditHasNoFault → ImportIsOne → ImportHasNoFault → (files : List File) (rows : Told) (kept others : Kept) (command : TableCommand) (first second : Status) (said again : List ℕ)
    → IsSome rows → IsSteady kept → IsSteady others → first ≢ OutOfMemory → second ≢ OutOfMemory → TablesSay (Some files) rows kept command first said → TablesSay (Some files) rows others command second again → first ≡ second
tables_told one apart unopened line_one line_apart import_one import_apart files None kept others command first second said again told steady still p q a b = absurd (nothing_told told)
tables_told one apart unopened line_one line_apart import_one import_apart files (Some raw) kept others command first second said again told steady still p q a b =
    one_over line_one line_apart import_one import_apart files kept others steady still one apart unopened raw command first second said again p q a b

-- without a facts file a run begins at the same place whatever files there are
without_files : (files other : Option (List File)) (rows : Told) (o : Opening) → IsOpening files None rows o → IsOpening other None rows o
without_files files other rows o opening = record {
  facts = opening.facts;
  facts_are = opening.facts_are;
  tables = opening.tables;
  stored = opening.stored;
  opening_is = opening.opening_is;
}

nothing_shelved : IsSome {T = List File} None → ⊥
nothing_shelved h = (cc)

-- and so a command on the rules that is no import says the same
tables_without : (other : Option (List File)) (rows : Told) (kept : Kept) (command : TableCommand) (status : Status) (text : List ℕ) → TellsImport None command → TablesSay None rows kept command status text → TablesSay other rows kept command status text
tables_without other rows kept (table.edit line) status text tells (inl h) = inl h
tables_without other rows kept (table.edit line) status text tells (inr h) = inr (h.0, without_files None other rows h.0 h.1, h.2)
tables_without other rows kept table.status status text tells (inl h) = inl h
tables_without other rows kept table.status status text tells (inr h) = inr (h.0, without_files None other rows h.0 h.1, h.2)
tables_without other rows kept table.list status text tells (inl h) = inl h
tables_without other rows kept table.list status text tells (inr h) = inr (h.0, without_files None other rows h.0 h.1, h.2)
tables_without other rows kept (table.import_file name) status text tells h = absurd (nothing_shelved tells)

pub tables_have_one_status : OneOpening → OpenedIsNotUnopened → UnopenedHasOneStatus → LineAsksForOneEdit → EditHasNoFault → ImportIsOne → ImportHasNoFault → TablesHaveOneStatus
tables_have_one_status one apart unopened line_one line_apart import_one import_apart (Some files) rows kept others command first second said again tells told steady still p q a b =
    tables_told one apart unopened line_one line_apart import_one import_apart files rows kept others command first second said again told steady still p q a b
tables_have_one_status one apart unopened line_one line_apart import_one import_apart None rows kept others command first second said again tells told steady still p q a b =
    tables_told one apart unopened line_one line_apart import_one import_apart [] rows kept others command first second said again told steady still p q
    (tables_without (Some []) rows kept command first said tells a) (tables_without (Some []) rows others command second again tells b)
