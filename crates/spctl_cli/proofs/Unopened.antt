-- From why a run has no desk to how it ends.
use Rattle.std.proofs.Common.{◌≡◌, ◌≢◌, ◌⊎◌, ℕ, List, Option, Result, Ok, Err, IfOk, IfErr, inl, inr, refl, sym, ap, ◌∙◌, subst}
use Rattle.gk_io.specs.Shelf.{File}
use Rattle.gk_io.specs.Faults.{Rose}
use Rattle.policy_keeper.specs.Told.{Told}
use Rattle.run_status.specs.declared.said.Said as code_said
use Rattle.run_status.specs.declared.stop.Stop as code_stop
use Rattle.run_status.specs.declared.stop.Stop.TheVariants as stop
use Rattle.run_status.specs.declared.status.Status.{Status}
use Rattle.run_status.specs.declared.status.Status.TheVariants.{ReadFault, WriteFault, ShelfFault, ClockFault, KeeperFault, FileMissing, FileTooLong, BadFacts, BadStore, SessionTooLong, OutOfMemory}
use Rattle.run_status.specs.Said.{IsSpoken}
use Rattle.desk_opening.specs.declared.unopened.Unopened.{Unopened}
use Rattle.desk_opening.specs.declared.unopened.Unopened.TheVariants as unopened
use Rattle.desk_opening.specs.Opens.{IsUnopened}
use Rattle.desk_opening.specs.Laws.{IsDeskless, UnopenedIsDeskless, UnopenedIsSpoken}
use Rattle.run_commands.specs.declared.halt.Halt.{Halt}
use Rattle.run_commands.specs.declared.halt.Halt.TheVariants as halt
use Rattle.run_commands.specs.Halts.{IsUnsaid}
use Rattle.run_commands.specs.Answers.{UnopenedAnswers}
use Rattle.spctl_cli.specs.Conclusions.{Tally, IsCounted, IsConcluded}
use Rattle.spctl_cli.specs.Statuses.{IsOfSession}
use Rattle.spctl_cli.proofs.Concluded.{answer_status, own_end}

pub unopened_answers : (files : Option (List File)) (facts : Option (List ℕ)) (told : Told) (why : Unopened) (result : Result code_said.Said Halt) → IsUnopened files facts told why → IsUnsaid why result → UnopenedAnswers files told facts result
unopened_answers files facts told (unopened.Said said) result h is = subst (UnopenedAnswers files told facts) (sym is) h
unopened_answers files facts told (unopened.Stop stop.ShelfFault) result h is = subst (UnopenedAnswers files told facts) (sym is) h
unopened_answers files facts told (unopened.Stop stop.ClockFault) result h is = absurd h
unopened_answers files facts told (unopened.Stop stop.OutOfMemory) result h is = subst (UnopenedAnswers files told facts) (sym is) tt
unopened_answers files facts told unopened.KeeperFault result h is = subst (UnopenedAnswers files told facts) (sym is) h

pub unopened_speaks : UnopenedIsSpoken → (files : Option (List File)) (facts : Option (List ℕ)) (told : Told) (result : Result code_said.Said Halt) → UnopenedAnswers files told facts result → IfOk result (λ said. IsSpoken said.status)
unopened_speaks spoken files facts told (Ok said) h = spoken files facts told said.status said.text h
unopened_speaks spoken files facts told (Err why) h = tt

-- why nothing is said, from what is returned, and back
pub unsaid_stop : (why : Unopened) (result : Result code_said.Said Halt) (reason : code_stop.Stop) → IsUnsaid why result → result ≡ Err (halt.Stop reason) → why ≡ unopened.Stop reason
unsaid_stop (unopened.Said said) result reason e is = let no : ◌≡◌ {A = Result code_said.Said Halt} (Ok said) (Err (halt.Stop reason)) = sym e ∙ is in cc
unsaid_stop (unopened.Stop other) result reason e is = let same : ◌≡◌ {A = Result code_said.Said Halt} (Err (halt.Stop other)) (Err (halt.Stop reason)) = sym e ∙ is in let one : other ≡ reason = cc in ap unopened.Stop one
unsaid_stop unopened.KeeperFault result reason e is = let no : ◌≡◌ {A = Result code_said.Said Halt} (Err halt.KeeperFault) (Err (halt.Stop reason)) = sym e ∙ is in cc

pub unsaid_keeper : (why : Unopened) (result : Result code_said.Said Halt) → IsUnsaid why result → result ≡ Err halt.KeeperFault → why ≡ unopened.KeeperFault
unsaid_keeper (unopened.Said said) result e is = let no : ◌≡◌ {A = Result code_said.Said Halt} (Ok said) (Err halt.KeeperFault) = sym e ∙ is in cc
unsaid_keeper (unopened.Stop other) result e is = let no : ◌≡◌ {A = Result code_said.Said Halt} (Err (halt.Stop other)) (Err halt.KeeperFault) = sym e ∙ is in cc
unsaid_keeper unopened.KeeperFault result e is = refl

pub unsaid_back : (why : Unopened) (result : Result code_said.Said Halt) (reason : code_stop.Stop) → IsUnsaid why result → why ≡ unopened.Stop reason → result ≡ Err (halt.Stop reason)
unsaid_back why result reason e is = subst (λ w. IsUnsaid w result) is e

pub keeper_back : (why : Unopened) (result : Result code_said.Said Halt) → IsUnsaid why result → why ≡ unopened.KeeperFault → result ≡ Err halt.KeeperFault
keeper_back why result e is = subst (λ w. IsUnsaid w result) is e

-- a device whose failure is told has counted it
pub counted : (answer : Result code_said.Said Halt) (tally : Tally) → (answer ≡ Err (halt.Stop stop.ShelfFault) → Rose tally.shelf tally.shelf_now) → (answer ≡ Err (halt.Stop stop.ClockFault) → Rose tally.clock tally.clock_now)
    → (answer ≡ Err halt.KeeperFault → Rose tally.keeper tally.keeper_now) → IfErr answer (λ why. IsCounted tally why)
counted (Ok said) tally shelf clock keeper = tt
counted (Err (halt.Stop stop.ShelfFault)) tally shelf clock keeper = shelf refl
counted (Err (halt.Stop stop.ClockFault)) tally shelf clock keeper = clock refl
counted (Err (halt.Stop stop.OutOfMemory)) tally shelf clock keeper = tt
counted (Err halt.KeeperFault) tally shelf clock keeper = keeper refl

-- the ends of a session that has no desk
abbrev pub IsDesklessEnd : Status → Type 0
IsDesklessEnd ShelfFault = Unit {0}
IsDesklessEnd KeeperFault = Unit {0}
IsDesklessEnd WriteFault = Unit {0}
IsDesklessEnd OutOfMemory = Unit {0}
IsDesklessEnd other = IsDeskless other

deskless_end : (status : Status) → IsDeskless status → IsDesklessEnd status
deskless_end FileMissing deskless = tt
deskless_end FileTooLong deskless = tt
deskless_end BadFacts deskless = tt
deskless_end BadStore deskless = tt
deskless_end other deskless = absurd deskless

unopened_status : UnopenedIsDeskless → (files : Option (List File)) (facts : Option (List ℕ)) (told : Told) (answer : Result code_said.Said Halt) → UnopenedAnswers files told facts answer → IsDesklessEnd (answer_status answer)
unopened_status deskless files facts told (Ok said) h = deskless_end said.status (deskless files facts told said.status said.text h)
unopened_status deskless files facts told (Err (halt.Stop stop.ShelfFault)) h = tt
unopened_status deskless files facts told (Err (halt.Stop stop.ClockFault)) h = absurd h
unopened_status deskless files facts told (Err (halt.Stop stop.OutOfMemory)) h = tt
unopened_status deskless files facts told (Err halt.KeeperFault) h = tt

pub unopened_end : UnopenedIsDeskless → (files : Option (List File)) (facts : Option (List ℕ)) (told : Told) (answer : Result code_said.Said Halt) (written sent : Option (List ℕ)) (ended : Status) → UnopenedAnswers files told facts answer → IsConcluded answer written sent ended → IsDesklessEnd ended
unopened_end deskless files facts told answer written sent ended h is = own_end IsDesklessEnd answer written sent ended (unopened_status deskless files facts told answer h) tt is

pub deskless_of_session : (ended : Status) → IsDesklessEnd ended → IsOfSession ended
deskless_of_session ShelfFault end = tt
deskless_of_session KeeperFault end = tt
deskless_of_session WriteFault end = tt
deskless_of_session OutOfMemory end = tt
deskless_of_session FileMissing end = tt
deskless_of_session FileTooLong end = tt
deskless_of_session BadFacts end = tt
deskless_of_session BadStore end = tt
deskless_of_session other end = absurd end

pub deskless_not_read : (ended : Status) → IsDesklessEnd ended → ended ≡ ReadFault → ⊥
deskless_not_read ended end is = no_read (subst IsDesklessEnd is end)
  where
    no_read : IsDesklessEnd ReadFault → ⊥
    no_read h = h

pub deskless_not_long : (ended : Status) → IsDesklessEnd ended → ended ≡ SessionTooLong → ⊥
deskless_not_long ended end is = no_long (subst IsDesklessEnd is end)
  where
    no_long : IsDesklessEnd SessionTooLong → ⊥
    no_long h = h

-- a result that is there is no fault
pub ok_is_not_err : {A B : Type 0} (a : A) (b : B) → ◌≡◌ {A = Result A B} (Ok a) (Err b) → ⊥
ok_is_not_err a b e = (cc)
