-- The code that a line is about. This project's own.
use Rattle.std.specs.Prelude.{ℕ, List, Option, Some, None, Result, Ok, if◌then◌else◌, codes, bytes_eq}
use Rattle.req_tree.specs.Subject.{Subject}
use Rattle.line_model.specs.LineFaults.{LineFault}
use Rattle.line_model.specs.Left.{Left, ◌>>=◌, word_at}
use Rattle.line_model.specs.Forms.{hash_at, identifier_at, platform_at}

-- HASH IDENTIFIER PLATFORM
abbrev pub signed_at : Left → Result (Subject × Left) LineFault
signed_at left = do
  hash ← hash_at left
  identifier ← identifier_at hash.1
  platform ← platform_at identifier.1
  Ok (record { cdhash = hash.0; identifier = identifier.0; platform = platform.0 }, platform.1)

-- signed code, as some subject
abbrev pub as_some : Result (Subject × Left) LineFault → Result (Option Subject × Left) LineFault
as_some read = do
  subject ← read
  Ok (Some subject.0, subject.1)

-- the subject that begins with this word: unsigned code has none
abbrev pub subject_by : List ℕ × Left → Left → Result (Option Subject × Left) LineFault
subject_by word left = if bytes_eq word.0 (codes "unsigned") then Ok (None, word.1) else as_some (signed_at left)

-- unsigned, or HASH IDENTIFIER PLATFORM
abbrev pub subject_at : Left → Result (Option Subject × Left) LineFault
subject_at left = do
  word ← word_at left
  subject_by word left
