-- What a reader hands on of its source's bytes.
use Rattle.std.specs.Prelude.{◌≡◌, ◌≢◌, ℕ, ◌+◌, ◌<◌, ◌⊎◌, List, [], ◌∷◌, ◌++◌, Option, Result, Ok, Err, length, take, drop}
use Rattle.std.specs.Io.KnownBytes.{Consumes, IsAtEnd, prepend_known}
use Rattle.line_reader.specs.Held.{held_bytes}
use Rattle.line_reader.specs.Lines.{HasNoLf}
use Rattle.line_reader.specs.declared.line_read.LineRead.{LineRead}
use Rattle.line_reader.specs.declared.line_read.LineRead.TheVariants.{Line, Last, End, TooLong}
use Rattle.line_reader.specs.declared.reader.LineReader.{LineReader}
use Rattle.line_reader.specs.declared.limits.TheConstants.{SESSION_BYTES, SESSION_LINES}
use Rattle.line_text.specs.declared.limits.TheConstants.{LINE_HELD}

-- the bytes that were read and aren't handed on yet
abbrev pub pending : LineReader → List ℕ
pending r = drop r.next (take r.end r.piece.items)

-- the line that was read last, as far as it is held
abbrev pub held : LineReader → List ℕ
held r = held_bytes r.line

-- how many ended lines were handed on
abbrev pub lines_handed : LineReader → ℕ
lines_handed r = r.lines

-- how many bytes were handed on
abbrev pub bytes_handed : LineReader → ℕ
bytes_handed r = r.bytes

-- a source behind its reader: the bytes to come, where the source tells them, and what was handed on
pub record Stream : Type 0 where
  pub unread : Option (List ℕ)
  pub lines : ℕ
  pub bytes : ℕ

-- what a reader has pending, and then what its source has left
abbrev pub stream : LineReader → Option (List ℕ) → Stream
stream r left = record { unread = prepend_known (pending r) left; lines = r.lines; bytes = r.bytes }

-- bytes without LF were handed on, and their front is held
pub record IsPart (old new : Stream) (line : List ℕ) : Type 0 where
  pub bytes : List ℕ
  pub taken : Consumes old.unread new.unread bytes
  pub no_lf : HasNoLf bytes
  pub front : line ≡ take LINE_HELD bytes
  pub size : new.bytes ≡ old.bytes + length bytes
  pub lines : new.lines ≡ old.lines
  -- a line was begun only where there was room for it
  pub begun : 0 < length bytes → old.lines < SESSION_LINES

-- a line and its LF were handed on, and the line's front is held
pub record IsLine (old new : Stream) (line : List ℕ) : Type 0 where
  pub bytes : List ℕ
  pub taken : Consumes old.unread new.unread (bytes ++ 10 ∷ [])
  pub no_lf : HasNoLf bytes
  pub front : line ≡ take LINE_HELD bytes
  pub size : new.bytes ≡ old.bytes + length bytes + 1
  pub lines : new.lines ≡ old.lines + 1

-- as many lines, or as many bytes, as a session may have were handed on
abbrev pub IsSpent : Stream → Type 0
IsSpent s = (s.lines ≡ SESSION_LINES) ⊎ (s.bytes ≡ SESSION_BYTES)

-- how the stream went on when a line was asked for
abbrev pub IsRead : {E : Type 0} → Stream → Stream → List ℕ → List ℕ → Result LineRead E → Type 0
IsRead old new line behind (Ok Line) = IsLine old new line
IsRead old new line behind (Ok Last) = IsPart old new line × (line ≢ []) × IsAtEnd new.unread
IsRead old new line behind (Ok End) = IsPart old new line × (line ≡ []) × IsAtEnd new.unread
IsRead old new line behind (Ok TooLong) = IsPart old new line × IsSpent new × (0 < length behind)
IsRead old new line behind (Err e) = IsPart old new line × (behind ≡ [])
