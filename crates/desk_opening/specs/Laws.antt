-- What follows of where runs begin; each is proved on a function of src/laws.rt. This project's own.
use Rattle.std.specs.Prelude.{◌≡◌, ℕ, List, Option, None, Some}
use Rattle.gk_io.specs.Shelf.{File}
use Rattle.req_tree.specs.Facts.{no_facts}
use Rattle.desk_opening.specs.Facts.{HasFacts, SaysOfFacts}
use Rattle.policy_model.specs.History.{Opening, empty_tables, fresh}
use Rattle.store_model.specs.Raw.{RawTables}
use Rattle.store_model.specs.Stored.{raw_of_tables}
use Rattle.policy_keeper.specs.Told.{Told}
use Rattle.run_status.specs.declared.status.Status.{Status}
use Rattle.run_status.specs.declared.status.Status.TheVariants.{FileMissing, FileTooLong, BadFacts, BadStore}
use Rattle.run_status.specs.Said.{IsSpoken}
use Rattle.desk_opening.specs.Opens.{IsOpening, SaysUnopened}

-- over files and rows that are told a run begins at one place at most
abbrev pub OneOpening : Type 0
OneOpening = (files : List File) (name : Option (List ℕ)) (raw : RawTables) (o p : Opening)
    → IsOpening (Some files) name (Some raw) o → IsOpening (Some files) name (Some raw) p → o ≡ p

-- where it begins nothing is said of the facts and the store
abbrev pub OpenedIsNotUnopened : Type 0
OpenedIsNotUnopened = (files : List File) (name : Option (List ℕ)) (raw : RawTables) (o : Opening) (status : Status) (text : List ℕ)
    → IsOpening (Some files) name (Some raw) o → SaysUnopened (Some files) name (Some raw) status text → ⊥

-- what is said of them has one status
abbrev pub UnopenedHasOneStatus : Type 0
UnopenedHasOneStatus = (files : List File) (name : Option (List ℕ)) (raw : RawTables) (first second : Status) (said other : List ℕ)
    → SaysUnopened (Some files) name (Some raw) first said → SaysUnopened (Some files) name (Some raw) second other → first ≡ second

-- facts that were read aren't told to be wrong
abbrev pub ReadIsNotRefused : Type 0
ReadIsNotRefused = (files : List File) (name : Option (List ℕ)) (status : Status) (text : List ℕ) → HasFacts (Some files) name → SaysOfFacts (Some files) name status text → ⊥

-- what is told of facts that are wrong has one status
abbrev pub RefusedHasOneStatus : Type 0
RefusedHasOneStatus = (files : List File) (name : Option (List ℕ)) (first second : Status) (said other : List ℕ)
    → SaysOfFacts (Some files) name first said → SaysOfFacts (Some files) name second other → first ≡ second

-- the statuses with which it is said why there is no desk
abbrev pub IsDeskless : Status → Type 0
IsDeskless FileMissing = Unit {0}
IsDeskless FileTooLong = Unit {0}
IsDeskless BadFacts = Unit {0}
IsDeskless BadStore = Unit {0}
IsDeskless other = ⊥

-- it is said with one of these
abbrev pub UnopenedIsDeskless : Type 0
UnopenedIsDeskless = (files : Option (List File)) (name : Option (List ℕ)) (told : Told) (status : Status) (text : List ℕ) → SaysUnopened files name told status text → IsDeskless status

-- with which a command may say something
abbrev pub UnopenedIsSpoken : Type 0
UnopenedIsSpoken = (files : Option (List File)) (name : Option (List ℕ)) (told : Told) (status : Status) (text : List ℕ) → SaysUnopened files name told status text → IsSpoken status

-- over the rows of empty tables and without a facts file a run begins as a fresh desk
abbrev pub EmptyStoreOpensFresh : Type 0
EmptyStoreOpensFresh = (files : Option (List File)) (o : Opening) → IsOpening files None (Some (raw_of_tables empty_tables)) o → o ≡ fresh no_facts
