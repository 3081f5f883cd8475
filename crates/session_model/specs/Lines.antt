-- What a session's line asks for. This project's own.
use Rattle.std.specs.Prelude.{◌≡◌, ℕ, List, [], ◌∷◌, Bool, true, false, Option, Some, None, Result, Ok, Err, if◌then◌else◌, codes, bytes_eq}
use Rattle.policy_model.specs.Outcomes.{Ask}
use Rattle.policy_model.specs.Contents.{Edit}
use Rattle.line_model.specs.LineFaults.{LineFault}
use Rattle.line_model.specs.Words.{number_word, from_one}
use Rattle.session_model.specs.declared.limits.TheConstants.{SLOT_DIGITS, GREATEST_SLOT}
use Rattle.line_model.specs.Left.{Left, ◌>>=◌, word_at, value_at, misfit, end_at}
use Rattle.line_model.specs.Forms.{moment_at, kind_at}
use Rattle.line_model.specs.Subjects.{subject_at}
use Rattle.line_model.specs.Edits.{Edited, edit_at, IsEdit, by_words}

-- what a line asks for
pub data Request : Type 0 where
  tick : ℕ → Request
  assess : Ask → Request
  -- an assessment begins under a number
  begin : ℕ → Ask → Request
  -- the one of that number is finished
  finish : ℕ → Request
  status : Request
  edit : Edit → Request

-- MOMENT
abbrev pub tick_at : Left → Result ℕ LineFault
tick_at left = do
  moment ← moment_at left
  end ← end_at moment.1
  Ok moment.0

-- the outcome isn't to be kept
abbrev pub nocache_word : List ℕ → Option Bool
nocache_word word = if bytes_eq word (codes "nocache") then Some false else None

-- whether the outcome may be kept: the line's end, or the word nocache and the end
abbrev pub keep_of : Left → List (List ℕ) → Result Bool LineFault
keep_of left [] = Ok true
keep_of left (w ∷ ws) = do
  keep ← value_at nocache_word (misfit left) left
  end ← end_at keep.1
  Ok keep.0

-- the same of what is left
abbrev pub keep_at : Left → Result Bool LineFault
keep_at left = keep_of left left.words

-- KIND, the subject, and nocache or nothing
abbrev pub ask_at : Left → Result Ask LineFault
ask_at left = do
  kind ← kind_at left
  subject ← subject_at kind.1
  keep ← keep_at subject.1
  Ok (record { kind = kind.0; subject = subject.0; keep = keep })

-- the number under which an assessment is begun
abbrev pub slot_word : List ℕ → Option ℕ
slot_word word = from_one (number_word SLOT_DIGITS GREATEST_SLOT word)

-- the same in its place
abbrev pub slot_at : Left → Result (ℕ × Left) LineFault
slot_at left = value_at slot_word (misfit left) left

-- N, KIND, the subject, and nocache or nothing
abbrev pub begin_at : Left → Result (ℕ × Ask) LineFault
begin_at left = do
  slot ← slot_at left
  ask ← ask_at slot.1
  Ok (slot.0, ask)

-- N
abbrev pub finish_at : Left → Result ℕ LineFault
finish_at left = do
  slot ← slot_at left
  end ← end_at slot.1
  Ok slot.0

-- what a line asks for, before the requirement in it is read
pub data Lined : Type 0 where
  asks : Request → Lined
  edits : Edited → Lined

-- what was read, as what a line asks for
abbrev pub as_lined : {A : Type 0} → (A → Lined) → Result A LineFault → Result Lined LineFault
as_lined lined read = do
  value ← read
  Ok (lined value)

-- the form of this first word; any word that is none begins an edit
abbrev pub form_at : List ℕ → Left → Result Lined LineFault
form_at word left =
    if bytes_eq word (codes "tick") then as_lined (λ m. asks (tick m)) (tick_at left)
    else if bytes_eq word (codes "assess") then as_lined (λ a. asks (assess a)) (ask_at left)
    else if bytes_eq word (codes "begin") then as_lined (λ (slot : ℕ × Ask). asks (begin slot.0 slot.1)) (begin_at left)
    else if bytes_eq word (codes "finish") then as_lined (λ n. asks (finish n)) (finish_at left)
    else if bytes_eq word (codes "status") then as_lined (λ (end : Left). asks status) (end_at left)
    else as_lined edits (edit_at word left)

-- a line by its first word
abbrev pub lined_at : Left → Result Lined LineFault
lined_at left = do
  word ← word_at left
  form_at word.0 word.1

-- a line read up to the requirement in it, or the first fault
abbrev pub lined : List ℕ → Result Lined LineFault
lined line = by_words form_at line

-- an edit as what a line asks for
abbrev pub edited : Result Edit LineFault → Result Request LineFault
edited read = do
  e ← read
  Ok (edit e)

-- what was read of a line asks for this, or has this fault
abbrev pub Asks : Result Lined LineFault → Result Request LineFault → Type 0
Asks (Err fault) asked = asked ≡ Err fault
Asks (Ok (asks request)) asked = asked ≡ Ok request
Asks (Ok (edits e)) asked = (read : Result Edit LineFault) × IsEdit (Ok e) read × (asked ≡ edited read)

-- a line asks for this, or has this first fault
abbrev pub IsAsked : List ℕ → Result Request LineFault → Type 0
IsAsked line asked = Asks (lined line) asked
