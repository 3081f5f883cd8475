-- The line that assesses a signature file. This project's own, after spctl(8), --assess.
use Rattle.std.specs.Prelude.{ℕ, ◌≡◌, Bool, true, false, List, [], ◌∷◌, ◌++◌, length, Option, min, if◌then◌else◌, codes}
use Rattle.req_tree.specs.Subject.{Subject}
use Rattle.code_directory.specs.declared.fault.CodeFault.{CodeFault}
use Rattle.code_directory.specs.FaultText.{code_fault_text}
use Rattle.policy_model.specs.declared.limits.TheConstants.{GREATEST_MOMENT}
use Rattle.policy_model.specs.Rules.{Kind}
use Rattle.policy_model.specs.Outcomes.{Ask, Verdict}
use Rattle.policy_model.specs.History.{Event, Opening, tick, ask, ask_answer}
use Rattle.session_model.specs.Finishing.{finished_text, finished_history}
use Rattle.assess_command.specs.declared.line.Assessed.{Assessed}
use Rattle.assess_command.specs.declared.line.Assessed.TheVariants.{Accepted, Rejected, Refused}
use Rattle.assess_command.specs.Files.{IsSubject, FilesFail}

-- the moment of a clock's seconds: a greater one counts as the greatest
abbrev pub moment_at : ℕ → ℕ
moment_at seconds = min seconds GREATEST_MOMENT

-- the ask for code of this subject; its outcome may be kept
abbrev pub ask_on : Kind → Option Subject → Ask
ask_on kind subject = record { kind = kind; subject = subject; keep = true }

-- the history with a moment of the clock handed in
abbrev pub at_moment : List Event → ℕ → List Event
at_moment h seconds = h ++ tick (moment_at seconds) ∷ []

-- the verdict on an ask at a moment of the clock, from an opening and a history on
abbrev pub answer_at : Opening → List Event → Ask → ℕ → Verdict
answer_at o h a seconds = ask_answer o (at_moment h seconds) a

-- the line of an ask at a moment of the clock that is finished at once
abbrev pub line_at : Opening → List Event → Ask → ℕ → List ℕ
line_at o h a seconds = finished_text o (at_moment h seconds ++ ask a ∷ []) (length (at_moment h seconds)) a

-- what has happened by then: the moment, the ask, and its offer where it has one
abbrev pub asked_at : Opening → List Event → Ask → ℕ → List Event
asked_at o h a seconds = finished_history o (at_moment h seconds ++ ask a ∷ []) (length (at_moment h seconds)) a

-- the verdict accepts or rejects, and this is its line
pub record Answered (o : Opening) (h : List Event) (a : Ask) (seconds : ℕ) (allow : Bool) (line : List ℕ) : Type 0 where
  pub allows : (answer_at o h a seconds).allow ≡ allow
  pub line_is : line ≡ line_at o h a seconds

-- accepted or rejected
abbrev pub assessed_by : Bool → Assessed
assessed_by allow = if allow then Accepted else Rejected

-- how an ask is answered
abbrev pub IsAnswered : Opening → List Event → Ask → ℕ → Assessed → List ℕ → Type 0
IsAnswered o h a seconds Accepted line = Answered o h a seconds true line
IsAnswered o h a seconds Rejected line = Answered o h a seconds false line
IsAnswered o h a seconds Refused line = ⊥

-- the files say what the code is, and so is it answered
pub record Judged (o : Opening) (h : List Event) (kind : Kind) (signature : List ℕ) (code : Option (List ℕ)) (seconds : ℕ) (allow : Bool) (line : List ℕ) : Type 0 where
  pub subject : Option Subject
  pub subject_is : IsSubject signature code subject
  pub answered : Answered o h (ask_on kind subject) seconds allow line

-- a check of the files fails, and the line is that of the first one
pub record IsRefused (signature : List ℕ) (code : Option (List ℕ)) (line : List ℕ) : Type 0 where
  pub fault : CodeFault
  pub fails : FilesFail signature code fault
  pub line_is : line ≡ codes "refused code " ++ code_fault_text fault

-- how files are assessed from an opening and a history on, and by which line
abbrev pub Assesses : Opening → List Event → Kind → List ℕ → Option (List ℕ) → ℕ → Assessed → List ℕ → Type 0
Assesses o h kind signature code seconds Accepted line = Judged o h kind signature code seconds true line
Assesses o h kind signature code seconds Rejected line = Judged o h kind signature code seconds false line
Assesses o h kind signature code seconds Refused line = IsRefused signature code line

-- what has happened when code of some subject was asked for that the files say
pub record Asked (o : Opening) (h : List Event) (kind : Kind) (signature : List ℕ) (code : Option (List ℕ)) (seconds : ℕ) (after : List Event) : Type 0 where
  pub subject : Option Subject
  pub subject_is : IsSubject signature code subject
  pub after_is : after ≡ asked_at o h (ask_on kind subject) seconds

-- what has happened when files were assessed: nothing more where they are refused
abbrev pub Leaves : Opening → List Event → Kind → List ℕ → Option (List ℕ) → ℕ → Assessed → List Event → Type 0
Leaves o h kind signature code seconds Accepted after = Asked o h kind signature code seconds after
Leaves o h kind signature code seconds Rejected after = Asked o h kind signature code seconds after
Leaves o h kind signature code seconds Refused after = after ≡ h
