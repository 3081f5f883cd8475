-- The steps in which a reader comes to its line. Only contracts of private functions cite them.
use Rattle.std.specs.Prelude.{◌≡◌, ◌≢◌, ℕ, ◌+◌, ◌<◌, Bool, true, false, List, [], ◌∷◌, ◌++◌, Option, Result, Ok, Err, MatchResult, length, take}
use Rattle.std.specs.Io.KnownBytes.{Keeps, IsAtEnd, prepend_known}
use Rattle.line_reader.specs.Lines.{HasNoLf}
use Rattle.line_reader.specs.Reading.{pending, held}
use Rattle.line_reader.specs.declared.line_read.LineRead.{LineRead}
use Rattle.line_reader.specs.declared.line_read.LineRead.TheVariants.{Line, Last, End, TooLong}
use Rattle.line_reader.specs.declared.reader.LineReader.{LineReader}
use Rattle.line_text.specs.declared.limits.TheConstants.{LINE_HELD}

-- a last line that holds a byte, or none
abbrev pub IsLast : List ℕ → LineRead → Type 0
IsLast line Line = ⊥
IsLast line Last = line ≢ []
IsLast line End = line ≡ []
IsLast line TooLong = ⊥

-- the reader handed on nothing more
pub record HandsOnNothing (old new : LineReader) : Type 0 where
  pub line : held new ≡ held old
  pub lines : new.lines ≡ old.lines
  pub bytes : new.bytes ≡ old.bytes

-- after a call of the source with nothing pending: what was left is pending or still left
abbrev pub IsFilled : {T E : Type 0} → Option (List ℕ) → Option (List ℕ) → List ℕ → Result T E → Type 0
IsFilled old new behind r =
    MatchResult r (λ _. Keeps old (prepend_known behind new) × (behind ≡ [] → IsAtEnd new)) (λ _. Keeps old new × (behind ≡ []))

-- whether a byte is pending; there is none only at the end or where the source failed
abbrev pub IsReady : {E : Type 0} → Option (List ℕ) → Option (List ℕ) → List ℕ → Result Bool E → Type 0
IsReady old new behind (Ok true) = Keeps old new × (0 < length behind)
IsReady old new behind (Ok false) = Keeps old new × IsAtEnd new
IsReady old new behind (Err e) = Keeps old new × (behind ≡ [])

-- the LF, where the run ended with one
abbrev pub lf_if : Bool → List ℕ
lf_if true = 10 ∷ []
lf_if false = []

-- a run of pending bytes was handed on, up to an LF if there is one within the limit
pub record IsRun (old new : LineReader) (ended : Bool) : Type 0 where
  pub run : List ℕ
  pub no_lf : HasNoLf run
  pub taken : pending old ≡ (run ++ lf_if ended) ++ pending new
  pub front : held new ≡ take LINE_HELD (held old ++ run)
  pub lines : new.lines ≡ old.lines + length (lf_if ended)
  pub size : new.bytes ≡ old.bytes + length (run ++ lf_if ended)
  pub moved : old.bytes < new.bytes
