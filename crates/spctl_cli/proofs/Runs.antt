-- What follows of how a run ends.
use Rattle.std.proofs.Common.{◌≡◌, ◌≢◌, ◌↔◌, ◌⊎◌, ℕ, List, [], Option, None, Some, Result, Ok, Err, inl, inr, refl, sym, ◌∙◌, subst}
use Rattle.std.specs.Prelude.{IsSome}
use Rattle.gk_io.specs.Shelf.{File}
use Rattle.policy_model.specs.History.{Opening}
use Rattle.policy_keeper.specs.Told.{Told}
use Rattle.session_model.specs.Slots.{State}
use Rattle.session_model.specs.Session.{begun}
use Rattle.run_status.specs.declared.said.Said.{Said}
use Rattle.run_status.specs.declared.stop.Stop.TheVariants as stop
use Rattle.run_status.specs.declared.status.Status.{Status}
use Rattle.run_status.specs.declared.status.Status.TheVariants.{Fine, Denied, Usage, ReadFault, WriteFault, ShelfFault, ClockFault, KeeperFault, FileMissing, FileTooLong, BadFacts, BadStore, Refused, SessionTooLong, OutOfMemory}
use Rattle.desk_opening.specs.Opens.{IsOpening}
use Rattle.desk_opening.specs.Laws.{IsDeskless, UnopenedIsDeskless}
use Rattle.command_words.specs.Table.{Command, session, on_files, on_tables, rehearse}
use Rattle.command_words.specs.Lines.{CommandLine}
use Rattle.run_commands.specs.declared.halt.Halt.{Halt}
use Rattle.run_commands.specs.declared.halt.Halt.TheVariants as halt
use Rattle.run_commands.specs.Answers.{UnopenedAnswers}
use Rattle.desk_state.specs.Failures.{Kept}
use Rattle.spctl_cli.specs.Headline.{IsSession}
use Rattle.spctl_cli.specs.Conclusions.{Tally, SpokenEnd}
use Rattle.spctl_cli.specs.Statuses.{IsOwn, IsOfCommand}
use Rattle.spctl_cli.specs.Ends.{SessionEnds, UsageEnds, OpenedEnd, UnopenedEnd, SessionRun, CommandEnds, RunEnds, GavePast}
use Rattle.spctl_cli.proofs.Concluded.{answer_status, ended_is}
use Rattle.spctl_cli.proofs.Own.{not_usage, files_not_past, tables_not_past}
use Rattle.spctl_cli.proofs.UsageAlone.{usage_alone}
use Rattle.spctl_cli.proofs.Past.{session_past, usage_past, spoken_past}

none_or_some : (line : CommandLine) → ◌≡◌ {A = Option CommandLine} (Some line) None → ⊥
none_or_some line e = (cc)

module _ (files : Option (List File)) (moments : Option (List ℕ)) (rows : Told) (kept : Kept) (tally : Tally) (left now written sent : Option (List ℕ)) (status : Status) where
  -- words that are no command are told the usage, unless the sink fails or memory runs out
  pub usage_exactly : (line : Option CommandLine) → RunEnds files moments rows kept tally line left now written sent status → IsOwn line status → status ≢ WriteFault → status ≢ OutOfMemory → ((status ≡ Usage) ↔ (line ≡ None))
  usage_exactly None e own a b = (λ is. refl, λ none. usage_alone left now written sent status e a b)
  usage_exactly (Some line) e own a b = (λ is. absurd (not_usage line.command (subst (IsOfCommand line.command) is own)), λ none. absurd (none_or_some line none))

  too_long_not_deskless : IsDeskless SessionTooLong → ⊥
  too_long_not_deskless h = h

  unopened_not_past : UnopenedIsDeskless → (facts : Option (List ℕ)) (answer : Result Said Halt) → UnopenedAnswers files rows facts answer → status ≡ answer_status answer → status ≢ SessionTooLong
  unopened_not_past deskless facts (Ok said) h is past = too_long_not_deskless (subst IsDeskless (sym is ∙ past) (deskless files facts rows said.status said.text h))
  unopened_not_past deskless facts (Err (halt.Stop stop.ShelfFault)) h is past = let no : ShelfFault ≡ SessionTooLong = sym is ∙ past in absurd (cc)
  unopened_not_past deskless facts (Err (halt.Stop stop.ClockFault)) h is past = let no : ClockFault ≡ SessionTooLong = sym is ∙ past in absurd (cc)
  unopened_not_past deskless facts (Err (halt.Stop stop.OutOfMemory)) h is past = let no : OutOfMemory ≡ SessionTooLong = sym is ∙ past in absurd (cc)
  unopened_not_past deskless facts (Err halt.KeeperFault) h is past = let no : KeeperFault ≡ SessionTooLong = sym is ∙ past in absurd (cc)

  session_run_past : UnopenedIsDeskless → (facts : Option (List ℕ)) → SessionRun files rows kept tally facts left now written sent status → IsSome left → status ≢ WriteFault → status ≢ OutOfMemory → ((status ≡ SessionTooLong) ↔ GavePast left now)
  session_run_past deskless facts (inl e) told a b = session_past kept e.opening begun left now written sent status e.ends told a b
  session_run_past deskless facts (inr e) told a b =
      spoken_past left now status e.spoken.unread (unopened_not_past deskless facts e.spoken.answer e.spoken.answers (ended_is e.spoken.answer written sent status e.spoken.concludes a))

  command_past : UnopenedIsDeskless → (facts : Option (List ℕ)) (command : Command) → CommandEnds files moments rows kept tally facts command left now written sent status → IsOfCommand command status → IsSome left → status ≢ WriteFault → status ≢ OutOfMemory → ((status ≡ SessionTooLong) ↔ GavePast left now)
  command_past deskless facts session e own told a b = session_run_past deskless facts e told a b
  command_past deskless facts (on_files command) e own told a b = spoken_past left now status e.spoken.unread (λ is. files_not_past command (subst (IsOfCommand (on_files command)) is own))
  command_past deskless facts (on_tables command) e own told a b = spoken_past left now status e.unread (λ is. tables_not_past command (subst (IsOfCommand (on_tables command)) is own))
  command_past deskless facts (rehearse steps) e own told a b = spoken_past left now status e.unread (λ is. subst (IsOfCommand (rehearse steps)) is own)

  -- a run is too long exactly where its source gave a byte past the limits
  pub past_exactly : UnopenedIsDeskless → (line : Option CommandLine) → RunEnds files moments rows kept tally line left now written sent status → IsOwn line status → IsSome left → status ≢ WriteFault → status ≢ OutOfMemory → ((status ≡ SessionTooLong) ↔ GavePast left now)
  past_exactly deskless None e own told a b = usage_past left now written sent status e a b
  past_exactly deskless (Some line) e own told a b = command_past deskless line.facts line.command e own told a b

  -- how a run ends whose line is known
  pub of_line : (line : Option CommandLine) (known : CommandLine) → line ≡ Some known → RunEnds files moments rows kept tally line left now written sent status → CommandEnds files moments rows kept tally known.facts known.command left now written sent status
  of_line line known is e = subst (λ l. RunEnds files moments rows kept tally l left now written sent status) is e

  no_fine_desk : IsDeskless Fine → ⊥
  no_fine_desk h = h

  -- a session that ends well
  unopened_not_fine : UnopenedIsDeskless → (facts : Option (List ℕ)) (answer : Result Said Halt) → UnopenedAnswers files rows facts answer → status ≡ answer_status answer → status ≢ Fine
  unopened_not_fine deskless facts (Ok said) h is fine = no_fine_desk (subst IsDeskless (sym is ∙ fine) (deskless files facts rows said.status said.text h))
  unopened_not_fine deskless facts (Err (halt.Stop stop.ShelfFault)) h is fine = let no : ShelfFault ≡ Fine = sym is ∙ fine in absurd (cc)
  unopened_not_fine deskless facts (Err (halt.Stop stop.ClockFault)) h is fine = let no : ClockFault ≡ Fine = sym is ∙ fine in absurd (cc)
  unopened_not_fine deskless facts (Err (halt.Stop stop.OutOfMemory)) h is fine = let no : OutOfMemory ≡ Fine = sym is ∙ fine in absurd (cc)
  unopened_not_fine deskless facts (Err halt.KeeperFault) h is fine = let no : KeeperFault ≡ Fine = sym is ∙ fine in absurd (cc)

  fine_not_write : status ≡ Fine → status ≢ WriteFault
  fine_not_write is other = let no : Fine ≡ WriteFault = sym is ∙ other in absurd (cc)

  pub fine_session : UnopenedIsDeskless → (facts : Option (List ℕ)) → SessionRun files rows kept tally facts left now written sent status → status ≡ Fine
      → (o : Opening) × IsOpening files facts rows o × (after : State) × IsSession kept o begun after left now written sent
  fine_session deskless facts (inl e) is =
      let ends : SessionEnds kept e.opening begun left now written sent Fine = subst (SessionEnds kept e.opening begun left now written sent) is e.ends in
      (e.opening, e.is_opening, ends.0, ends.1)
  fine_session deskless facts (inr e) is =
      absurd (unopened_not_fine deskless facts e.spoken.answer e.spoken.answers (ended_is e.spoken.answer written sent status e.spoken.concludes (fine_not_write is)) is)

module _ (files : Option (List File)) (moments : Option (List ℕ)) (rows : Told) (kept : Kept) (tally : Tally) (left now written sent : Option (List ℕ)) (status : Status) (line : CommandLine) where
  -- a line ends as its command does
  pub by_command : (command : Command) → line.command ≡ command → CommandEnds files moments rows kept tally line.facts command left now written sent status → RunEnds files moments rows kept tally (Some line) left now written sent status
  by_command command is h = subst (λ c. CommandEnds files moments rows kept tally line.facts c left now written sent status) (sym is) h
