-- What a call leaves of a device, said by another result in whose place it stands.
use Rattle.std.proofs.Common.{◌≡◌, ◌≢◌, ℕ, ◌≤◌, ◌⊎◌, List, Option, None, Some, Result, Ok, Err, IfErr, inl, inr, arith, refl, sym, ap, ◌∙◌, subst}
use Rattle.run_status.specs.declared.stop.Stop.TheVariants as stop
use Rattle.gk_io.specs.Devices.{Counts, PassesShelf, PassesClock}
use Rattle.policy_keeper.specs.Told.{Told}
use Rattle.desk_opening.specs.Opens.{TellsTheSame, PassesLoad, IsUnopened}
use Rattle.gk_io.specs.Shelf.{File}
use Rattle.run_status.specs.declared.said.Said as code_said
use Rattle.run_status.specs.declared.stop.Stop as code_stop
use Rattle.desk_opening.specs.declared.unopened.Unopened.{Unopened}
use Rattle.desk_opening.specs.declared.unopened.Unopened.TheVariants.{Said, Stop, KeeperFault}
use Rattle.run_commands.specs.declared.halt.Halt.{Halt}
use Rattle.run_commands.specs.declared.halt.Halt.TheVariants as halt
use Rattle.run_commands.specs.Halts.{IsUnsaid, IsHalted}

-- a count that is the cause of one thing is that of another from which it follows, and it moves where that may be
pub counts_for : (Says May Tells Might : Type 0) (before now : ℕ) → (Tells → Says) → ((Might → ⊥) → May → ⊥) → Counts Says May before now → Counts Tells Might before now
counts_for Says May Tells Might before now says may counts = record {
  later = counts.later;
  cause = λ tells. counts.cause (says tells);
  steady = λ none. counts.steady (may none);
}

pub shelf_for : (Says May Tells Might : Type 0) (files kept : Option (List File)) (before now : ℕ) → (Tells → Says) → ((Might → ⊥) → May → ⊥) → PassesShelf Says May files kept before now → PassesShelf Tells Might files kept before now
shelf_for Says May Tells Might files kept before now says may passes = record { kept = passes.kept; counts = counts_for Says May Tells Might before now says may passes.counts }

pub clock_for : (Says May Tells Might : Type 0) (moments next : Option (List ℕ)) (before now : ℕ) → (Tells → Says) → ((Might → ⊥) → May → ⊥) → PassesClock Says May moments next before now → PassesClock Tells Might moments next before now
clock_for Says May Tells Might moments next before now says may passes = record { telling = passes.telling; counts = counts_for Says May Tells Might before now says may passes.counts }

-- counts one after another: both belong to what the calls tell, the first only to the first
pub counts_then : (First May Tells Might : Type 0) (before mid now : ℕ) → Counts First May before mid → Counts Tells Might mid now → (May → ⊥) → Counts Tells Might before now
counts_then First May Tells Might before mid now first second still =
    subst (λ n. Counts Tells Might n now) (first.steady still) second

-- why a command stopped, from what is returned, and back
pub halted_stop : (said : Result code_said.Said code_stop.Stop) (result : Result code_said.Said Halt) (why : code_stop.Stop) → IsHalted said result → result ≡ Err (halt.Stop why) → said ≡ Err why
halted_stop (Ok text) result why is e = let no : ◌≡◌ {A = Result code_said.Said Halt} (Ok text) (Err (halt.Stop why)) = sym is ∙ e in cc
halted_stop (Err other) result why is e = let same : ◌≡◌ {A = Result code_said.Said Halt} (Err (halt.Stop other)) (Err (halt.Stop why)) = sym is ∙ e in let one : other ≡ why = cc in ap Err one

pub halted_back : (said : Result code_said.Said code_stop.Stop) (result : Result code_said.Said Halt) (why : code_stop.Stop) → IsHalted said result → said ≡ Err why → result ≡ Err (halt.Stop why)
halted_back said result why is e = subst (λ s. IsHalted s result) e is

pub halted_not_keeper : (said : Result code_said.Said code_stop.Stop) (result : Result code_said.Said Halt) → IsHalted said result → result ≡ Err halt.KeeperFault → ⊥
halted_not_keeper (Ok text) result is e = let no : ◌≡◌ {A = Result code_said.Said Halt} (Ok text) (Err halt.KeeperFault) = sym is ∙ e in cc
halted_not_keeper (Err other) result is e = let no : ◌≡◌ {A = Result code_said.Said Halt} (Err (halt.Stop other)) (Err halt.KeeperFault) = sym is ∙ e in cc

-- what holds of a device by what a command says holds by what is returned
module _ (said : Result code_said.Said code_stop.Stop) (result : Result code_said.Said Halt) (is : IsHalted said result) where
  pub shelf_halted : (why : code_stop.Stop) (files kept : Option (List File)) (before now : ℕ) → PassesShelf (said ≡ Err why) (said ≡ Err why) files kept before now → PassesShelf (result ≡ Err (halt.Stop why)) (result ≡ Err (halt.Stop why)) files kept before now
  shelf_halted why files kept before now passes =
      shelf_for (said ≡ Err why) (said ≡ Err why) (result ≡ Err (halt.Stop why)) (result ≡ Err (halt.Stop why)) files kept before now
      (halted_stop said result why is) (λ none may. none (halted_back said result why is may)) passes

  pub clock_halted : (why : code_stop.Stop) (moments next : Option (List ℕ)) (before now : ℕ) → PassesClock (said ≡ Err why) (said ≡ Err why) moments next before now → PassesClock (result ≡ Err (halt.Stop why)) (result ≡ Err (halt.Stop why)) moments next before now
  clock_halted why moments next before now passes =
      clock_for (said ≡ Err why) (said ≡ Err why) (result ≡ Err (halt.Stop why)) (result ≡ Err (halt.Stop why)) moments next before now
      (halted_stop said result why is) (λ none may. none (halted_back said result why is may)) passes

-- why nothing is said without a desk, from what is returned, and back
pub unsaid_stop : (why : Unopened) (result : Result code_said.Said Halt) (reason : code_stop.Stop) → IsUnsaid why result → result ≡ Err (halt.Stop reason) → why ≡ Stop reason
unsaid_stop (Said said) result reason e is = let no : ◌≡◌ {A = Result code_said.Said Halt} (Ok said) (Err (halt.Stop reason)) = sym e ∙ is in cc
unsaid_stop (Stop other) result reason e is = let same : ◌≡◌ {A = Result code_said.Said Halt} (Err (halt.Stop other)) (Err (halt.Stop reason)) = sym e ∙ is in let one : other ≡ reason = cc in ap Stop one
unsaid_stop KeeperFault result reason e is = let no : ◌≡◌ {A = Result code_said.Said Halt} (Err halt.KeeperFault) (Err (halt.Stop reason)) = sym e ∙ is in cc

pub unsaid_keeper : (why : Unopened) (result : Result code_said.Said Halt) → IsUnsaid why result → result ≡ Err halt.KeeperFault → why ≡ KeeperFault
unsaid_keeper (Said said) result e is = let no : ◌≡◌ {A = Result code_said.Said Halt} (Ok said) (Err halt.KeeperFault) = sym e ∙ is in cc
unsaid_keeper (Stop other) result e is = let no : ◌≡◌ {A = Result code_said.Said Halt} (Err (halt.Stop other)) (Err halt.KeeperFault) = sym e ∙ is in cc
unsaid_keeper KeeperFault result e is = refl

pub unsaid_back : (why : Unopened) (result : Result code_said.Said Halt) (reason : code_stop.Stop) → IsUnsaid why result → why ≡ Stop reason → result ≡ Err (halt.Stop reason)
unsaid_back why result reason e is = subst (λ w. IsUnsaid w result) is e

pub keeper_back : (why : Unopened) (result : Result code_said.Said Halt) → IsUnsaid why result → why ≡ KeeperFault → result ≡ Err halt.KeeperFault
keeper_back why result e is = subst (λ w. IsUnsaid w result) is e

pub unsaid_not_clock : (files : Option (List File)) (facts : Option (List ℕ)) (told : Told) (why : Unopened) (result : Result code_said.Said Halt) → IsUnopened files facts told why → IsUnsaid why result → result ≡ Err (halt.Stop stop.ClockFault) → ⊥
unsaid_not_clock files facts told why result h e is = subst (IsUnopened files facts told) (unsaid_stop why result stop.ClockFault e is) h

pub halted_not_clock : (said : Result code_said.Said code_stop.Stop) (result : Result code_said.Said Halt) → IsHalted said result → said ≢ Err stop.ClockFault → result ≡ Err (halt.Stop stop.ClockFault) → ⊥
halted_not_clock said result is apart e = apart (halted_stop said result stop.ClockFault is e)

-- results differ
pub err_one : {A B : Type 0} {x y : B} → ◌≡◌ {A = Result A B} (Err x) (Err y) → x ≡ y
err_one e = (cc)

pub ok_is_not_err : {A B : Type 0} (a : A) (b : B) → ◌≡◌ {A = Result A B} (Ok a) (Err b) → ⊥
ok_is_not_err a b e = (cc)

-- devices that weren't asked
pub same_rows : (told : Told) → TellsTheSame told told
same_rows None = tt
same_rows (Some raw) = refl

pub counts_unmoved : (Says May : Type 0) (n : ℕ) → (Says → ⊥) → Counts Says May n n
counts_unmoved Says May n none = record { later = omega arith; cause = λ says. absurd (none says); steady = λ m. refl }

-- a count that may move, and whose device isn't told to have failed
pub counts_moved : (Says May : Type 0) (before now : ℕ) → before ≤ now → (Says → ⊥) → May → Counts Says May before now
counts_moved Says May before now later none may = record { later = later; cause = λ says. absurd (none says); steady = λ still. absurd (still may) }

-- what only finds no memory doesn't fail otherwise
pub memory_not : (result : Result code_said.Said Halt) → IfErr result (λ why. why ≡ halt.Stop stop.OutOfMemory) → (other : Halt) → (halt.Stop stop.OutOfMemory ≡ other → ⊥) → result ≡ Err other → ⊥
memory_not result halts other apart is = apart (sym (subst (λ r. IfErr r (λ why. why ≡ halt.Stop stop.OutOfMemory)) is halts))

counts_still : (Says May : Type 0) (n : ℕ) → (Says → ⊥) → Counts Says May n n
counts_still Says May n none = record { later = omega arith; cause = λ says. absurd (none says); steady = λ m. refl }

pub still_load : (Says May : Type 0) (told : Told) (n : ℕ) → (Says → ⊥) → PassesLoad Says May told told n n
still_load Says May told n none = record { same = same_rows told; counts = counts_still Says May n none }

pub still_clock : (Says May : Type 0) (moments : Option (List ℕ)) (n : ℕ) → (Says → ⊥) → PassesClock Says May moments moments n n
still_clock Says May moments n none = record { telling = refl; counts = counts_still Says May n none }

pub still_shelf : (Says May : Type 0) (files : Option (List File)) (n : ℕ) → (Says → ⊥) → PassesShelf Says May files files n n
still_shelf Says May files n none = record { kept = refl; counts = counts_still Says May n none }

-- a load by another cause
pub load_for : (Says May Tells Might : Type 0) (told now : Told) (before counted : ℕ) → (Tells → Says) → ((Might → ⊥) → May → ⊥) → PassesLoad Says May told now before counted → PassesLoad Tells Might told now before counted
load_for Says May Tells Might told now before counted says may passes = record { same = passes.same; counts = counts_for Says May Tells Might before counted says may passes.counts }

-- devices that didn't fail at the opening of a desk, and then this
pub shelf_then : (First May Tells Might : Type 0) (files kept last : Option (List File)) (before mid now : ℕ) → (May → ⊥) → PassesShelf First May files kept before mid → PassesShelf Tells Might kept last mid now → PassesShelf Tells Might files last before now
shelf_then First May Tells Might files kept last before mid now still first second = record { kept = second.kept ∙ first.kept; counts = counts_then First May Tells Might before mid now first.counts second.counts still }

pub load_then : (First May Tells Might : Type 0) (told now : Told) (before counted : ℕ) → (May → ⊥) → (Tells → ⊥) → PassesLoad First May told now before counted → PassesLoad Tells Might told now before counted
load_then First May Tells Might told now before counted still none first = record {
  same = first.same;
  counts = record { later = first.counts.later; cause = λ tells. absurd (none tells); steady = λ m. first.counts.steady still };
}

pub shelf_last : (First May Tells Might : Type 0) (files kept : Option (List File)) (before now : ℕ) → (May → ⊥) → (Tells → ⊥) → PassesShelf First May files kept before now → PassesShelf Tells Might files kept before now
shelf_last First May Tells Might files kept before now still none first = record {
  kept = first.kept;
  counts = record { later = first.counts.later; cause = λ tells. absurd (none tells); steady = λ m. first.counts.steady still };
}
