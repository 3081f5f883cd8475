-- What a run has read and written when it ends, and what the keeper then tells. This project's own.
use Rattle.std.specs.Prelude.{◌≡◌, ℕ, ◌⊎◌, List, [], ◌++◌, Option, Some, None, Result, Ok, Err}
use Rattle.std.specs.Io.KnownBytes.{Appends}
use Rattle.gk_io.specs.Shelf.{File}
use Rattle.gk_io.specs.Told.{AppendsFront}
use Rattle.policy_model.specs.History.{Opening, tables_of}
use Rattle.policy_keeper.specs.Told.{Told, Stays}
use Rattle.policy_keeper.specs.Mirror.{Mirrors}
use Rattle.desk_state.specs.Failures.{Shows, Kept}
use Rattle.session_model.specs.Slots.{State}
use Rattle.session_model.specs.Session.{begun, Session}
use Rattle.line_reader.specs.Lines.{with_lf}
use Rattle.line_reader.specs.Limits.{RunsPast}
use Rattle.line_session.specs.Ends.{StopsBefore, BreaksOff, AtReadFault, AtLimit, AtWant}
use Rattle.desk_lines.specs.Memory.{TakesMemory}
use Rattle.run_status.specs.declared.said.Said.{Said}
use Rattle.run_status.specs.declared.stop.Stop.TheVariants as stop
use Rattle.run_status.specs.declared.status.Status.{Status}
use Rattle.run_status.specs.declared.status.Status.TheVariants.{Fine, Usage, ReadFault, WriteFault, SessionTooLong, OutOfMemory}
use Rattle.desk_opening.specs.Opens.{IsOpening}
use Rattle.command_words.specs.Table.{FileCommand, Command, session, on_files, on_tables, rehearse}
use Rattle.command_words.specs.Lines.{CommandLine}
use Rattle.run_commands.specs.declared.halt.Halt.{Halt}
use Rattle.run_commands.specs.declared.halt.Halt.TheVariants as halt
use Rattle.run_commands.specs.Answers.{UnopenedAnswers, FilesAnswer, TablesAnswer}
use Rattle.rehearse_command.specs.Rehearsing.{SaysRehearsal}
use Rattle.spctl_cli.specs.Conclusions.{Tally, SpokenEnd}
use Rattle.spctl_cli.specs.Headline.{IsSession}
use Rattle.spctl_cli.specs.LastLines.{read_fault_text, too_long_text, usage_text}

-- the lines get the replies, whatever state they lead to; the keeper has the tables of that, and at most as many edits failed as its count
-- shows
abbrev pub AnswersKept : Kept → Opening → State → List (List ℕ) → List (List ℕ) → Type 0
AnswersKept kept o s lines replies =
    (after : State) × Session o s lines replies after × Mirrors kept.told (tables_of o after.history) × Shows s.history after.history kept.before kept.counted

-- the session stopped for this reason with its replies written, and behind them stands this line
pub record TellsFault (Why : List (List ℕ) → List ℕ → Type 0) (text : List ℕ) (kept : Kept) (o : Opening) (s : State) (left now written sent : Option (List ℕ)) : Type 0 where
  pub replied : Option (List ℕ)
  pub stops : StopsBefore Why (AnswersKept kept o s) left now written replied
  pub told : Appends replied sent (with_lf text)

-- the same, but the sink failed at this line, of which a front was written
pub record BreaksAtFault (Why : List (List ℕ) → List ℕ → Type 0) (text : List ℕ) (kept : Kept) (o : Opening) (s : State) (left now written sent : Option (List ℕ)) : Type 0 where
  pub replied : Option (List ℕ)
  pub stops : StopsBefore Why (AnswersKept kept o s) left now written replied
  pub told : AppendsFront replied sent (with_lf text)

-- how a session ends from the opening o and the state s on, by the status of its run; kept is what the keeper then tells
abbrev pub SessionEnds : Kept → Opening → State → Option (List ℕ) → Option (List ℕ) → Option (List ℕ) → Option (List ℕ) → Status → Type 0
SessionEnds kept o s left now written sent Fine = (after : State) × IsSession kept o s after left now written sent
SessionEnds kept o s left now written sent ReadFault = TellsFault AtReadFault read_fault_text kept o s left now written sent
SessionEnds kept o s left now written sent WriteFault =
    BreaksOff (AnswersKept kept o s) left now written sent
    ⊎ (BreaksAtFault AtReadFault read_fault_text kept o s left now written sent ⊎ BreaksAtFault AtLimit too_long_text kept o s left now written sent)
SessionEnds kept o s left now written sent SessionTooLong = TellsFault AtLimit too_long_text kept o s left now written sent
SessionEnds kept o s left now written sent OutOfMemory = StopsBefore (AtWant TakesMemory) (AnswersKept kept o s) left now written sent
SessionEnds kept o s left now written sent other = ⊥

-- nothing was read, and the sink gained just the text
pub record Tells (text : List ℕ) (left now written sent : Option (List ℕ)) : Type 0 where
  pub unread : now ≡ left
  pub put : Appends written sent text

-- nothing was read, and the sink gained just a front of the text
pub record TellsFront (text : List ℕ) (left now written sent : Option (List ℕ)) : Type 0 where
  pub unread : now ≡ left
  pub put : AppendsFront written sent text

-- how a run ends whose words are no command: by the usage line, where the sink failed by a front of it, or out of memory by nothing
abbrev pub UsageEnds : Option (List ℕ) → Option (List ℕ) → Option (List ℕ) → Option (List ℕ) → Status → Type 0
UsageEnds left now written sent Usage = Tells (with_lf usage_text) left now written sent
UsageEnds left now written sent WriteFault = TellsFront (with_lf usage_text) left now written sent
UsageEnds left now written sent OutOfMemory = Tells [] left now written sent
UsageEnds left now written sent other = ⊥

-- how a session ends over a desk that is opened where its run begins
pub record OpenedEnd (files : Option (List File)) (rows : Told) (kept : Kept) (facts : Option (List ℕ)) (left now written sent : Option (List ℕ)) (status : Status) : Type 0 where
  pub opening : Opening
  pub is_opening : IsOpening files facts rows opening
  pub ends : SessionEnds kept opening begun left now written sent status

-- how a session ends that has no desk: what is wrong with the facts or the store is said, or why nothing is; the keeper's rows are as they
-- were
pub record UnopenedEnd (files : Option (List File)) (rows : Told) (kept : Kept) (tally : Tally) (facts : Option (List ℕ)) (left now written sent : Option (List ℕ)) (status : Status) : Type 0 where
  pub spoken : SpokenEnd (UnopenedAnswers files rows facts) tally left now written sent status
  pub stays : Stays rows kept.told

-- how a session ends, over its desk or where it has none
abbrev pub SessionRun : Option (List File) → Told → Kept → Tally → Option (List ℕ) → Option (List ℕ) → Option (List ℕ) → Option (List ℕ) → Option (List ℕ) → Status → Type 0
SessionRun files rows kept tally facts left now written sent status =
    OpenedEnd files rows kept facts left now written sent status ⊎ UnopenedEnd files rows kept tally facts left now written sent status

-- how a command on files ends, which changes no row
pub record FilesEnd (files : Option (List File)) (moments : Option (List ℕ)) (rows : Told) (kept : Kept) (tally : Tally) (facts : Option (List ℕ)) (command : FileCommand) (left now written sent : Option (List ℕ)) (status : Status) : Type 0 where
  pub spoken : SpokenEnd (FilesAnswer files moments rows facts command) tally left now written sent status
  pub stays : Stays rows kept.told

-- what comes of a rehearsal: it says its counts, or finds no memory
abbrev pub RehearsalAnswers : ℕ → Result Said Halt → Type 0
RehearsalAnswers steps (Ok said) = SaysRehearsal steps said.status said.text
RehearsalAnswers steps (Err why) = why ≡ halt.Stop stop.OutOfMemory

-- how a run ends, by its command, its facts file and its status. The shelf has these files and the clock these moments to come, where they
-- tell; rows are those that the keeper told when its load had answered, and kept is what it tells as the run ends
abbrev pub CommandEnds : Option (List File) → Option (List ℕ) → Told → Kept → Tally → Option (List ℕ) → Command → Option (List ℕ) → Option (List ℕ) → Option (List ℕ) → Option (List ℕ) → Status → Type 0
CommandEnds files moments rows kept tally facts session left now written sent status = SessionRun files rows kept tally facts left now written sent status
CommandEnds files moments rows kept tally facts (on_files command) left now written sent status =
    FilesEnd files moments rows kept tally facts command left now written sent status
CommandEnds files moments rows kept tally facts (on_tables command) left now written sent status =
    SpokenEnd (TablesAnswer files rows kept command) tally left now written sent status
CommandEnds files moments rows kept tally facts (rehearse steps) left now written sent status =
    SpokenEnd (RehearsalAnswers steps) tally left now written sent status

-- and by its words, which may be no command
abbrev pub RunEnds : Option (List File) → Option (List ℕ) → Told → Kept → Tally → Option CommandLine → Option (List ℕ) → Option (List ℕ) → Option (List ℕ) → Option (List ℕ) → Status → Type 0
RunEnds files moments rows kept tally None left now written sent status = UsageEnds left now written sent status
RunEnds files moments rows kept tally (Some line) left now written sent status = CommandEnds files moments rows kept tally line.facts line.command left now written sent status

-- the source, which tells its bytes, gave one past the limits of a session
abbrev pub GavePast : Option (List ℕ) → Option (List ℕ) → Type 0
GavePast None now = ⊥
GavePast (Some left) None = ⊥
GavePast (Some left) (Some now) = (taken : List ℕ) × (left ≡ taken ++ now) × RunsPast taken
