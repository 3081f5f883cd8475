-- What a command says has one status.
use Rattle.std.proofs.Common.{◌≡◌, ℕ, ◌<◌, ◌≤◌, ◌⊎◌, List, [], Option, None, Some, length, inl, inr, arith, refl, sym, ap, ◌∙◌, subst}
use Rattle.std.specs.Prelude.{IsSome, Bool, true, false}
use Rattle.std.specs.List.{list_any}
use Rattle.gk_io.specs.Shelf.{File, file_named}
use Rattle.policy_model.specs.Rules.{Kind}
use Rattle.policy_model.specs.History.{Event, Opening}
use Rattle.store_model.specs.Raw.{RawTables}
use Rattle.policy_keeper.specs.Told.{Told}
use Rattle.desk_state.specs.Failures.{Kept}
use Rattle.req_grammar.specs.declared.limits.TheConstants.{MOST_TEXT_BYTES}
use Rattle.req_blob.specs.declared.limits.TheConstants.{MOST_BYTES}
use Rattle.run_status.specs.declared.status.Status.{Status}
use Rattle.run_status.specs.declared.status.Status.TheVariants.{Fine, Denied, Usage, ReadFault, WriteFault, ShelfFault, ClockFault, KeeperFault, FileMissing, FileTooLong, BadFacts, BadStore, Refused, SessionTooLong, OutOfMemory}
use Rattle.run_status.specs.Files.{SaysWithoutFile, SaysOfFile, SaysOnFile}
use Rattle.language_commands.specs.Compiling.{Compiles}
use Rattle.language_commands.specs.CompilingSets.{CompilesSet}
use Rattle.language_commands.specs.Dumping.{Dumps}
use Rattle.assess_command.specs.declared.line.Assessed.{Assessed}
use Rattle.assess_command.specs.declared.line.Assessed.TheVariants as assessed
use Rattle.file_assessment.specs.declared.limits.TheConstants.{MOST_SIGNATURE_BYTES, MOST_CODE_BYTES}
use Rattle.file_assessment.specs.Assessing.{SaysByClock, SaysWithCode, SaysAssess, status_of}
use Rattle.desk_opening.specs.Opens.{IsOpening, SaysUnopened}
use Rattle.desk_opening.specs.Laws.{OneOpening, OpenedIsNotUnopened, UnopenedHasOneStatus}
use Rattle.command_words.specs.Table.{FileCommand, compile, compile_set, dump, assess, TableCommand}
use Rattle.command_words.specs.Table as table
use Rattle.table_commands.specs.Replies.{is_refusal, refused_when}
use Rattle.table_commands.specs.ImportSays.{Imports, SaysImport}
use Rattle.run_commands.specs.Says.{DeskSays, FilesSay, TableSays, TablesSay}
use Rattle.run_commands.specs.Laws.{TellsRows, IsTimeless, FilesHaveOneStatus, TimelessStatusIsOne, BadStoreIsOne}

pub nothing_told : IsSome {T = RawTables} None → ⊥
nothing_told h = (cc)

pub same_bytes : (found : Option (List ℕ)) (xs ys : List ℕ) → found ≡ Some xs → found ≡ Some ys → xs ≡ ys
same_bytes found xs ys a b = (cc)

not_both : (found : Option (List ℕ)) (xs : List ℕ) → found ≡ None → found ≡ Some xs → ⊥
not_both found xs a b = (cc)

-- no file of that name, or one that is longer
abbrev pub IsWithout : List File → List ℕ → ℕ → Status → Type 0
IsWithout files name limit status =
    ((status ≡ FileMissing) × (file_named files name ≡ None)) ⊎ ((status ≡ FileTooLong) × ((bytes : List ℕ) × (file_named files name ≡ Some bytes) × (limit < length bytes)))

pub without : (files : List File) (name : List ℕ) (limit : ℕ) (status : Status) (text : List ℕ) → SaysWithoutFile (Some files) name limit status text → IsWithout files name limit status
without files name limit Fine text h = absurd h
without files name limit Denied text h = absurd h
without files name limit Usage text h = absurd h
without files name limit ReadFault text h = absurd h
without files name limit WriteFault text h = absurd h
without files name limit ShelfFault text h = absurd h
without files name limit ClockFault text h = absurd h
without files name limit KeeperFault text h = absurd h
without files name limit FileMissing text h = inl (refl, h.0)
without files name limit FileTooLong text h = inr (refl, h.0)
without files name limit BadFacts text h = absurd h
without files name limit BadStore text h = absurd h
without files name limit Refused text h = absurd h
without files name limit SessionTooLong text h = absurd h
without files name limit OutOfMemory text h = absurd h

-- a file within the limit is neither missing nor too long
pub there : (files : List File) (name : List ℕ) (limit : ℕ) (status : Status) (bytes : List ℕ) → IsWithout files name limit status → file_named files name ≡ Some bytes → length bytes ≤ limit → ⊥
there files name limit status bytes (inl missing) found short = not_both (file_named files name) bytes missing.1 found
there files name limit status bytes (inr long) found short =
    let same = ap length (same_bytes (file_named files name) long.1.0 bytes long.1.1 found) in
    omega (arith, same, short, long.1.2)

pub one_without : (files : List File) (name : List ℕ) (limit : ℕ) (first second : Status) → IsWithout files name limit first → IsWithout files name limit second → first ≡ second
one_without files name limit first second (inl a) (inl b) = a.0 ∙ sym b.0
one_without files name limit first second (inr a) (inr b) = a.0 ∙ sym b.0
one_without files name limit first second (inl a) (inr b) = absurd (not_both (file_named files name) b.1.0 a.1 b.1.1)
one_without files name limit first second (inr a) (inl b) = absurd (not_both (file_named files name) a.1.0 b.1 a.1.1)

-- over files that are told, what a command says twice of one file has statuses that belong together, where its work has
module _ (Same : Status → Status → Type 0) (same : (first second : Status) → first ≡ second → Same first second) (Work : List ℕ → Status → List ℕ → Type 0) (files : List File) (name : List ℕ) (limit : ℕ) where
  one_on_file : ((bytes said other : List ℕ) (first second : Status) → Work bytes first said → Work bytes second other → Same first second) → (first second : Status) (said other : List ℕ)
      → SaysOnFile Work (Some files) name limit first said → SaysOnFile Work (Some files) name limit second other → Same first second
  one_on_file works first second said other (inl a) (inl b) = same first second (one_without files name limit first second (without files name limit first said a) (without files name limit second other b))
  one_on_file works first second said other (inl a) (inr b) = absurd (there files name limit first b.bytes (without files name limit first said a) b.file.0 b.file.1)
  one_on_file works first second said other (inr a) (inl b) = absurd (there files name limit second a.bytes (without files name limit second other b) a.file.0 a.file.1)
  one_on_file works first second said other (inr a) (inr b) =
      works b.bytes said other first second (subst (λ bytes. Work bytes first said) (same_bytes (file_named files name) a.bytes b.bytes a.file.0 b.file.0) a.says) b.says

abbrev OneStatus : (List ℕ → Status → List ℕ → Type 0) → Type 0
OneStatus Work = (bytes said other : List ℕ) (first second : Status) → Work bytes first said → Work bytes second other → first ≡ second

-- over a store that is told, what is said over a desk has statuses that belong together, where what it says has
module _ (one : OneOpening) (apart : OpenedIsNotUnopened) (unopened : UnopenedHasOneStatus) (Same : Status → Status → Type 0) (same : (first second : Status) → first ≡ second → Same first second) where
  over_rows : (files : List File) (facts : Option (List ℕ)) (raw : RawTables) (Says : Opening → Status → List ℕ → Type 0) → ((o : Opening) (first second : Status) (said other : List ℕ) → Says o first said → Says o second other → Same first second)
      → (first second : Status) (said other : List ℕ) → DeskSays (Some files) facts (Some raw) Says first said → DeskSays (Some files) facts (Some raw) Says second other → Same first second
  over_rows files facts raw Says says first second said other (inl a) (inl b) = same first second (unopened files facts raw first second said other a b)
  over_rows files facts raw Says says first second said other (inl a) (inr b) = absurd (apart files facts raw b.0 first said b.1 a)
  over_rows files facts raw Says says first second said other (inr a) (inl b) = absurd (apart files facts raw a.0 second other a.1 b)
  over_rows files facts raw Says says first second said other (inr a) (inr b) =
      says b.0 first second said other (subst (λ o. Says o first said) (one files facts raw a.0 b.0 a.1 b.1) a.2) b.2

  over_desk : (files : List File) (facts : Option (List ℕ)) (rows : Told) (Says : Opening → Status → List ℕ → Type 0) → IsSome rows → ((o : Opening) (first second : Status) (said other : List ℕ) → Says o first said → Says o second other → Same first second)
      → (first second : Status) (said other : List ℕ) → DeskSays (Some files) facts rows Says first said → DeskSays (Some files) facts rows Says second other → Same first second
  over_desk files facts None Says told says first second said other a b = absurd (nothing_told told)
  over_desk files facts (Some raw) Says told says first second said other a b = over_rows files facts raw Says says first second said other a b

  module _ (compiles : OneStatus Compiles) (sets : OneStatus CompilesSet) (dumps : OneStatus Dumps) (files : List File) (moments : Option (List ℕ)) (rows : Told) (facts : Option (List ℕ)) where
    one_assessed : ((o : Opening) (kind : Kind) (signature : List ℕ) (code : Option (List ℕ)) (said other : List ℕ) (first second : Status) → SaysByClock o [] moments kind signature code first said → SaysByClock o [] moments kind signature code second other → Same first second)
        → (kind : Kind) (name : List ℕ) (code : Option (List ℕ)) (o : Opening) (first second : Status) (said other : List ℕ) → SaysAssess o [] (Some files) moments kind name code first said → SaysAssess o [] (Some files) moments kind name code second other → Same first second
    one_assessed clocks kind name None o first second said other a b =
        one_on_file Same same (SaysWithCode o [] (Some files) moments kind None) files name MOST_SIGNATURE_BYTES (λ signature x y p q h k. clocks o kind signature None x y p q h k) first second said other a b
    one_assessed clocks kind name (Some code) o first second said other a b =
        one_on_file Same same (SaysWithCode o [] (Some files) moments kind (Some code)) files name MOST_SIGNATURE_BYTES
        (λ signature x y p q h k. one_on_file Same same (λ bytes. SaysByClock o [] moments kind signature (Some bytes)) files code MOST_CODE_BYTES (λ bytes. clocks o kind signature (Some bytes)) p q x y h k) first second said other a b

    one_said : ((o : Opening) (kind : Kind) (signature : List ℕ) (code : Option (List ℕ)) (said other : List ℕ) (first second : Status) → SaysByClock o [] moments kind signature code first said → SaysByClock o [] moments kind signature code second other → Same first second)
        → (command : FileCommand) (first second : Status) (said other : List ℕ) → TellsRows rows command → FilesSay (Some files) moments rows facts command first said → FilesSay (Some files) moments rows facts command second other → Same first second
    one_said clocks (compile name) first second said other told a b = one_on_file Same same Compiles files name MOST_TEXT_BYTES (λ bytes x y p q h k. same p q (compiles bytes x y p q h k)) first second said other a b
    one_said clocks (compile_set name) first second said other told a b = one_on_file Same same CompilesSet files name MOST_TEXT_BYTES (λ bytes x y p q h k. same p q (sets bytes x y p q h k)) first second said other a b
    one_said clocks (dump name) first second said other told a b = one_on_file Same same Dumps files name MOST_BYTES (λ bytes x y p q h k. same p q (dumps bytes x y p q h k)) first second said other a b
    one_said clocks (assess kind name code) first second said other told a b =
        over_desk files facts rows (λ o. SaysAssess o [] (Some files) moments kind name code) told (one_assessed clocks kind name code) first second said other a b

abbrev TimelessSame : Status → Status → Type 0
TimelessSame first second = IsTimeless first → first ≡ second

refused_alone : (how : Assessed) → IsTimeless (status_of how) → status_of how ≡ Refused
refused_alone assessed.Accepted timeless = absurd timeless
refused_alone assessed.Rejected timeless = absurd timeless
refused_alone assessed.Refused timeless = refl

abbrev RefusedEver : Type 0
RefusedEver =
    (o : Opening) (h : List Event) (moments others : Option (List ℕ)) (kind : Kind) (signature : List ℕ) (code : Option (List ℕ)) (said other : List ℕ) (second : Status)
    → SaysByClock o h moments kind signature code Refused said → SaysByClock o h others kind signature code second other → second ≡ Refused

abbrev OneTold : Type 0
OneTold =
    (o : Opening) (h : List Event) (moments : List ℕ) (kind : Kind) (signature : List ℕ) (code : Option (List ℕ)) (said other : List ℕ) (first second : Status)
    → SaysByClock o h (Some moments) kind signature code first said → SaysByClock o h (Some moments) kind signature code second other → first ≡ second

timeless_by_clock : (ever : RefusedEver) (moments : Option (List ℕ)) (o : Opening) (kind : Kind) (signature : List ℕ) (code : Option (List ℕ)) (said other : List ℕ) (first second : Status)
    → SaysByClock o [] moments kind signature code first said → SaysByClock o [] moments kind signature code second other → TimelessSame first second
timeless_by_clock ever moments o kind signature code said other first second a b = λ timeless.
    let refused = a.says.end_is ∙ refused_alone a.says.how (subst IsTimeless a.says.end_is timeless) in
    refused ∙ sym (ever o [] moments moments kind signature code said other second (subst (λ s. SaysByClock o [] moments kind signature code s said) refused a) b)

module _ (one : OneOpening) (apart : OpenedIsNotUnopened) (unopened : UnopenedHasOneStatus) (compiles : OneStatus Compiles) (sets : OneStatus CompilesSet) (dumps : OneStatus Dumps) where
  pub files_have_one_status : OneTold → FilesHaveOneStatus
  files_have_one_status told files moments rows facts command first second said other tells a b =
      one_said one apart unopened (λ p q. p ≡ q) (λ p q is. is) compiles sets dumps files (Some moments) rows facts
      (λ o kind signature code x y p q h k. told o [] moments kind signature code x y p q h k) command first second said other tells a b

  pub timeless_status_is_one : RefusedEver → TimelessStatusIsOne
  timeless_status_is_one ever files moments rows facts command first second said other tells timeless a b =
      one_said one apart unopened TimelessSame (λ p q is t. is) compiles sets dumps files moments rows facts
      (λ o kind signature code x y p q h k. timeless_by_clock ever moments o kind signature code x y p q h k) command first second said other tells a b timeless

-- what a command on the rules says over an opened desk isn't that the store is bad
fine_is_not_bad : BadStore ≡ Fine → ⊥
fine_is_not_bad e = (cc)

refused_is_not_bad : BadStore ≡ Refused → ⊥
refused_is_not_bad e = (cc)

when_is_not_bad : (refused : Bool) → refused_when refused ≡ BadStore → ⊥
when_is_not_bad true e = (cc)
when_is_not_bad false e = (cc)

reply_is_not_bad : (reply : List ℕ) → refused_when (is_refusal reply) ≡ BadStore → ⊥
reply_is_not_bad reply e = when_is_not_bad (is_refusal reply) e

import_is_not_bad : (files : Option (List File)) (o : Opening) (name text : List ℕ) (after : List Event) → SaysImport o [] files name BadStore text after → ⊥
import_is_not_bad files o name text after (inl says) = says.says
import_is_not_bad files o name text after (inr says) = works_are_not_bad o after says.bytes text says.says
  where
    works_are_not_bad : (o : Opening) (after : List Event) (bytes text : List ℕ) → Imports o [] after bytes BadStore text → ⊥
    works_are_not_bad o after bytes text (inl refused) = refused_is_not_bad refused.status_is
    works_are_not_bad o after bytes text (inr done) = when_is_not_bad (list_any is_refusal done.replies) (sym done.status_is)

pub not_bad : (files : Option (List File)) (kept : Kept) (command : TableCommand) (o : Opening) (text : List ℕ) → TableSays files kept command o BadStore text → ⊥
not_bad files kept (table.edit line) o text does = reply_is_not_bad does.says.says.reply (sym does.says.says.status_is)
not_bad files kept table.status o text says = fine_is_not_bad says.status_is
not_bad files kept table.list o text says = fine_is_not_bad says.status_is
not_bad files kept (table.import_file name) o text does = import_is_not_bad files o name text does.after does.says

module _ (apart : OpenedIsNotUnopened) (unopened : UnopenedHasOneStatus) where
  bad_in_all : (files : List File) (raw : RawTables) (kept : Kept) (command : TableCommand) (second : Status) (said other : List ℕ)
      → TablesSay (Some files) (Some raw) kept command BadStore said → TablesSay (Some files) (Some raw) kept command second other → second ≡ BadStore
  bad_in_all files raw kept command second said other (inl a) (inl b) = unopened files None raw second BadStore other said b a
  bad_in_all files raw kept command second said other (inl a) (inr b) = absurd (apart files None raw b.0 BadStore said b.1 a)
  bad_in_all files raw kept command second said other (inr a) b = absurd (not_bad (Some files) kept command a.0 said a.2)

  pub bad_store_is_one : BadStoreIsOne
  bad_store_is_one files None kept command second said other told a b = absurd (nothing_told told)
  bad_store_is_one files (Some raw) kept command second said other told a b = bad_in_all files raw kept command second said other a b
