-- How long a session may be. This project's own.
use Rattle.std.specs.Prelude.{ℕ, ◌<◌, ◌≤◌, ◌⊎◌, List, length}
use Rattle.line_reader.specs.Lines.{lines_of}
use Rattle.line_reader.specs.declared.limits.TheConstants.{SESSION_BYTES, SESSION_LINES}

-- neither too many lines, a last one without LF counted, nor too many bytes
pub record IsWithin (bytes : List ℕ) : Type 0 where
  pub lines : length (lines_of bytes) ≤ SESSION_LINES
  pub size : length bytes ≤ SESSION_BYTES

-- at least one byte after so many ended lines, or after so many bytes
abbrev pub RunsPast : List ℕ → Type 0
RunsPast bytes = (SESSION_LINES < length (lines_of bytes)) ⊎ (SESSION_BYTES < length bytes)
