-- What a session has read, answered and written when it ends. This project's own.
use Rattle.std.specs.Prelude.{◌≡◌, ◌≢◌, ℕ, ◌-◌, ◌⊎◌, List, [], ◌∷◌, ◌++◌, Option, All, length, take}
use Rattle.std.specs.Io.KnownBytes.{Appends, Consumes, IsAtEnd}
use Rattle.line_text.specs.declared.limits.TheConstants.{LINE_HELD}
use Rattle.line_reader.specs.Lines.{lines_of, text_of, with_lf, HasNoLf}
use Rattle.line_reader.specs.Limits.{IsWithin, RunsPast}
use Rattle.line_reader.specs.declared.limits.TheConstants.{SESSION_BYTES, SESSION_LINES}
use Rattle.line_session.specs.declared.ended.Ended.{Ended}
use Rattle.line_session.specs.declared.ended.Ended.TheVariants.{Fine, ReadFault, WriteFault, TooLong, OutOfMemory}

-- the whole input was read, and the replies to its lines were written, each with its LF
pub record EndsFine (Answered : List (List ℕ) → List (List ℕ) → Type 0) (left now written sent : Option (List ℕ)) : Type 0 where
  pub bytes : List ℕ
  pub replies : List (List ℕ)
  pub taken : Consumes left now bytes
  pub at_end : IsAtEnd now
  pub within : IsWithin bytes
  pub put : Appends written sent (text_of replies)
  pub answered : Answered (lines_of bytes) replies

-- whole lines within the limits were read and answered, and more bytes were read that weren't; just the replies were written
pub record StopsBefore (Why : List (List ℕ) → List ℕ → Type 0) (Answered : List (List ℕ) → List (List ℕ) → Type 0) (left now written sent : Option (List ℕ)) : Type 0 where
  pub lines : List (List ℕ)
  pub rest : List ℕ
  pub replies : List (List ℕ)
  pub taken : Consumes left now (text_of lines ++ rest)
  pub whole : All HasNoLf lines
  pub within : IsWithin (text_of lines)
  pub why : Why lines rest
  pub put : Appends written sent (text_of replies)
  pub answered : Answered lines replies

-- where the source failed every whole line was answered, and the limits weren't passed
abbrev pub AtReadFault : List (List ℕ) → List ℕ → Type 0
AtReadFault lines rest = HasNoLf rest × IsWithin (text_of lines ++ rest)

-- where the limits were passed every whole line within them was answered
abbrev pub AtLimit : List (List ℕ) → List ℕ → Type 0
AtLimit lines rest = RunsPast (text_of lines ++ rest) × ((length lines ≡ SESSION_LINES) ⊎ HasNoLf (take (SESSION_BYTES - length (text_of lines)) rest))

-- memory runs out before the first byte is read, or at a line that takes some; at most the first LINE_HELD bytes of it are seen
abbrev pub AtWant : (List ℕ → Type 0) → List (List ℕ) → List ℕ → Type 0
AtWant Takes lines rest =
    ((lines ≡ []) × (rest ≡ []))
    ⊎ ((line : List ℕ) × (others : List (List ℕ)) × (lines_of rest ≡ line ∷ others) × Takes (take LINE_HELD line))

-- what stands behind a line: its LF, or at the end nothing, and then the line isn't empty
abbrev pub EndsLine : List ℕ → List ℕ → Option (List ℕ) → Type 0
EndsLine line [] now = (line ≢ []) × IsAtEnd now
EndsLine line (byte ∷ rest) now = byte ≡ 10

-- all lines up to one were read within the limits and answered; of the last reply a front was written, the others whole
pub record BreaksOff (Answered : List (List ℕ) → List (List ℕ) → Type 0) (left now written sent : Option (List ℕ)) : Type 0 where
  pub lines : List (List ℕ)
  pub line : List ℕ
  pub rest : List ℕ
  pub replies : List (List ℕ)
  pub reply : List ℕ
  pub count : ℕ
  pub taken : Consumes left now (text_of lines ++ (line ++ rest))
  pub whole : All HasNoLf (lines ++ line ∷ [])
  pub within : IsWithin (text_of lines ++ (line ++ take 1 rest))
  pub ended : EndsLine line rest now
  pub put : Appends written sent (text_of replies ++ take count (with_lf reply))
  pub answered : Answered (lines ++ line ∷ []) (replies ++ reply ∷ [])

-- what a session has done, by its end; memory runs out only at lines of which Takes holds
abbrev pub IsEnd : (List ℕ → Type 0) → (List (List ℕ) → List (List ℕ) → Type 0) → Option (List ℕ) → Option (List ℕ) → Option (List ℕ) → Option (List ℕ) → Ended → Type 0
IsEnd Takes Answered left now written sent Fine = EndsFine Answered left now written sent
IsEnd Takes Answered left now written sent ReadFault = StopsBefore AtReadFault Answered left now written sent
IsEnd Takes Answered left now written sent WriteFault = BreaksOff Answered left now written sent
IsEnd Takes Answered left now written sent TooLong = StopsBefore AtLimit Answered left now written sent
IsEnd Takes Answered left now written sent OutOfMemory = StopsBefore (AtWant Takes) Answered left now written sent
