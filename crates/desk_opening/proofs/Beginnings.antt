-- Where a run begins, and what is said where it doesn't.
use Rattle.std.proofs.Common.{◌≡◌, ◌≢◌, ◌⊎◌, ℕ, ◌<◌, ◌≤◌, List, [], length, Option, None, Some, IfSome, inl, inr, refl, sym, ap, ◌∙◌, subst, arith}
use Rattle.gk_io.specs.Shelf.{File, file_named}
use Rattle.req_tree.specs.Facts.{Facts, no_facts}
use Rattle.policy_model.specs.Rules.{Row}
use Rattle.policy_model.specs.Tables.{Tables}
use Rattle.policy_model.specs.History.{Opening, empty_tables, fresh}
use Rattle.code_facts.specs.declared.fault.FactFault.{FactFault}
use Rattle.code_facts.specs.Tables.{IsFactsFile, IsFirstFault}
use Rattle.store_model.specs.Raw.{RawTables, StoreRow}
use Rattle.store_model.specs.Stored.{raw_of_tables, Holds}
use Rattle.store_model.specs.Accepted.{Accepts}
use Rattle.store_model.specs.Refused.{IsRefusedAt}
use Rattle.store_model.specs.Laws.{RowsMeanOne, AcceptedIsNotRefused}
use Rattle.policy_keeper.specs.Told.{Told}
use Rattle.run_status.specs.declared.status.Status.{Status}
use Rattle.run_status.specs.declared.status.Status.TheVariants.{Fine, Denied, Usage, ReadFault, WriteFault, ShelfFault, ClockFault, KeeperFault, FileMissing, FileTooLong, BadFacts, BadStore, Refused, SessionTooLong, OutOfMemory}
use Rattle.run_status.specs.Files.{IsFile, SaysWithoutFile}
use Rattle.desk_opening.specs.declared.limits.TheConstants.{MOST_FACTS_BYTES}
use Rattle.desk_opening.specs.Facts.{IsFacts, HasFacts, SaysBadFacts, SaysOfFacts}
use Rattle.desk_opening.specs.Opens.{IsOpening, SaysOfStore, SaysUnopened}
use Rattle.desk_state.specs.Loaded.{loaded}
use Rattle.desk_opening.specs.Laws.{OneOpening, OpenedIsNotUnopened, UnopenedHasOneStatus, ReadIsNotRefused, RefusedHasOneStatus, EmptyStoreOpensFresh}

-- no file of that name, or one that is longer
abbrev IsWithout : List File → List ℕ → Status → Type 0
IsWithout files name status =
    ((status ≡ FileMissing) × (file_named files name ≡ None)) ⊎ ((status ≡ FileTooLong) × ((bytes : List ℕ) × (file_named files name ≡ Some bytes) × (MOST_FACTS_BYTES < length bytes)))

without : (files : List File) (name : List ℕ) (status : Status) (text : List ℕ) → SaysWithoutFile (Some files) name MOST_FACTS_BYTES status text → IsWithout files name status
without files name Fine text h = absurd h
without files name Denied text h = absurd h
without files name Usage text h = absurd h
without files name ReadFault text h = absurd h
without files name WriteFault text h = absurd h
without files name ShelfFault text h = absurd h
without files name ClockFault text h = absurd h
without files name KeeperFault text h = absurd h
without files name FileMissing text h = inl (refl, h.0)
without files name FileTooLong text h = inr (refl, h.0)
without files name BadFacts text h = absurd h
without files name BadStore text h = absurd h
without files name Refused text h = absurd h
without files name SessionTooLong text h = absurd h
without files name OutOfMemory text h = absurd h

bad_facts : (bytes : List ℕ) (status : Status) (text : List ℕ) → SaysBadFacts bytes status text → (status ≡ BadFacts) × ((fault : FactFault) × IsFirstFault bytes fault)
bad_facts bytes Fine text h = absurd h
bad_facts bytes Denied text h = absurd h
bad_facts bytes Usage text h = absurd h
bad_facts bytes ReadFault text h = absurd h
bad_facts bytes WriteFault text h = absurd h
bad_facts bytes ShelfFault text h = absurd h
bad_facts bytes ClockFault text h = absurd h
bad_facts bytes KeeperFault text h = absurd h
bad_facts bytes FileMissing text h = absurd h
bad_facts bytes FileTooLong text h = absurd h
bad_facts bytes BadFacts text h = (refl, (h.0, h.2))
bad_facts bytes BadStore text h = absurd h
bad_facts bytes Refused text h = absurd h
bad_facts bytes SessionTooLong text h = absurd h
bad_facts bytes OutOfMemory text h = absurd h

bad_store : (told : Told) (status : Status) (text : List ℕ) → SaysOfStore told status text → (status ≡ BadStore) × ((row : StoreRow) × IfSome told (λ raw. IsRefusedAt raw row))
bad_store told Fine text h = absurd h
bad_store told Denied text h = absurd h
bad_store told Usage text h = absurd h
bad_store told ReadFault text h = absurd h
bad_store told WriteFault text h = absurd h
bad_store told ShelfFault text h = absurd h
bad_store told ClockFault text h = absurd h
bad_store told KeeperFault text h = absurd h
bad_store told FileMissing text h = absurd h
bad_store told FileTooLong text h = absurd h
bad_store told BadFacts text h = absurd h
bad_store told BadStore text h = (refl, (h.0, h.1))
bad_store told Refused text h = absurd h
bad_store told SessionTooLong text h = absurd h
bad_store told OutOfMemory text h = absurd h

same_bytes : (found : Option (List ℕ)) (xs ys : List ℕ) → found ≡ Some xs → found ≡ Some ys → xs ≡ ys
same_bytes found xs ys a b = (cc)

not_both : (found : Option (List ℕ)) (xs : List ℕ) → found ≡ None → found ≡ Some xs → ⊥
not_both found xs a b = (cc)

-- a file within the limit is neither missing nor too long
there : (files : List File) (name : List ℕ) (status : Status) (bytes : List ℕ) → IsWithout files name status → IsFile (Some files) name MOST_FACTS_BYTES bytes → ⊥
there files name status bytes (inl missing) file = not_both (file_named files name) bytes missing.1 file.0
there files name status bytes (inr long) file =
    let same = ap length (same_bytes (file_named files name) long.1.0 bytes long.1.1 file.0) in
    omega (arith, same, file.1, long.1.2)

one_without : (files : List File) (name : List ℕ) (first second : Status) → IsWithout files name first → IsWithout files name second → first ≡ second
one_without files name first second (inl a) (inl b) = a.0 ∙ sym b.0
one_without files name first second (inr a) (inr b) = a.0 ∙ sym b.0
one_without files name first second (inl a) (inr b) = absurd (not_both (file_named files name) b.1.0 a.1 b.1.1)
one_without files name first second (inr a) (inl b) = absurd (not_both (file_named files name) a.1.0 b.1 a.1.1)

module _ (apart : (bytes : List ℕ) (facts : Facts) (fault : FactFault) → IsFactsFile bytes facts → IsFirstFault bytes fault → ⊥) where
  facts_or_said : (files : List File) (name : Option (List ℕ)) (facts : Facts) (status : Status) (text : List ℕ) → IsFacts (Some files) name facts → SaysOfFacts (Some files) name status text → ⊥
  facts_or_said files None facts status text is said = said
  facts_or_said files (Some name) facts status text is (inl said) = there files name status is.0 (without files name status text said) is.1
  facts_or_said files (Some name) facts status text is (inr said) =
      let bad = bad_facts said.0 status text said.2 in
      apart is.0 facts bad.1.0 is.2 (subst (λ bytes. IsFirstFault bytes bad.1.0) (same_bytes (file_named files name) said.0 is.0 said.1.0 is.1.0) bad.1.1)

  pub read_is_not_refused : ReadIsNotRefused
  read_is_not_refused files name status text has said = facts_or_said files name has.0 status text has.1 said

  module _ (refuse : AcceptedIsNotRefused) where
    pub opened_is_not_unopened : OpenedIsNotUnopened
    opened_is_not_unopened files name raw o status text opening (inl said) = facts_or_said files name opening.facts status text opening.facts_are said
    opened_is_not_unopened files name raw o status text opening (inr said) =
        let bad = bad_store (Some raw) status text said.1 in
        refuse raw bad.1.0 opening.stored.0 bad.1.1

  said_of_facts : (files : List File) (name : Option (List ℕ)) (first second : Status) (said other : List ℕ) → SaysOfFacts (Some files) name first said → SaysOfFacts (Some files) name second other → first ≡ second
  said_of_facts files None first second said other a b = absurd a
  said_of_facts files (Some name) first second said other (inl a) (inl b) = one_without files name first second (without files name first said a) (without files name second other b)
  said_of_facts files (Some name) first second said other (inl a) (inr b) = absurd (there files name first b.0 (without files name first said a) b.1)
  said_of_facts files (Some name) first second said other (inr a) (inl b) = absurd (there files name second a.0 (without files name second other b) a.1)
  said_of_facts files (Some name) first second said other (inr a) (inr b) = (bad_facts a.0 first said a.2).0 ∙ sym (bad_facts b.0 second other b.2).0

  pub refused_has_one_status : RefusedHasOneStatus
  refused_has_one_status = said_of_facts

  pub unopened_has_one_status : UnopenedHasOneStatus
  unopened_has_one_status files name raw first second said other (inl a) (inl b) = said_of_facts files name first second said other a b
  unopened_has_one_status files name raw first second said other (inl a) (inr b) = absurd (facts_or_said files name b.0.0 first said b.0.1 a)
  unopened_has_one_status files name raw first second said other (inr a) (inl b) = absurd (facts_or_said files name a.0.0 second other a.0.1 b)
  unopened_has_one_status files name raw first second said other (inr a) (inr b) = (bad_store (Some raw) first said a.1).0 ∙ sym (bad_store (Some raw) second other b.1).0

module _ (one : (bytes : List ℕ) (first second : Facts) → IsFactsFile bytes first → IsFactsFile bytes second → first ≡ second) where
  same_facts : (files : List File) (name : Option (List ℕ)) (first second : Facts) → IsFacts (Some files) name first → IsFacts (Some files) name second → first ≡ second
  same_facts files None first second a b = a ∙ sym b
  same_facts files (Some name) first second a b =
      one b.0 first second (subst (λ bytes. IsFactsFile bytes first) (same_bytes (file_named files name) a.0 b.0 a.1.0 b.1.0) a.2) b.2

  pub one_opening : RowsMeanOne → OneOpening
  one_opening means files name raw o p a b =
      a.opening_is
      ∙ ap (λ tables. loaded tables a.facts) (means raw a.tables b.tables a.stored.1 b.stored.1)
      ∙ ap (λ facts. loaded b.tables facts) (same_facts files name a.facts b.facts a.facts_are b.facts_are)
      ∙ sym b.opening_is

-- the rows of empty tables mean these
empty_holds : Holds (raw_of_tables empty_tables) empty_tables
empty_holds = record { stored = refl; trees = λ k d lt. absurd (omega (arith, lt)) }

pub empty_store_opens_fresh : RowsMeanOne → EmptyStoreOpensFresh
empty_store_opens_fresh means files o a =
    a.opening_is
    ∙ ap (λ tables. loaded tables a.facts) (means (raw_of_tables empty_tables) a.tables empty_tables a.stored.1 empty_holds)
    ∙ ap (λ facts. loaded empty_tables facts) a.facts_are
