-- The lines that tell of a file, each without its LF. This project's own.
use Rattle.std.specs.Prelude.{ℕ, List, ◌++◌, codes}
use Rattle.line_text.specs.WordText.{word_text}

-- there is no file of that name
abbrev pub file_missing_text : List ℕ → List ℕ
file_missing_text name = codes "fault FileMissing name=" ++ word_text name

-- the file of that name has more bytes than its command takes
abbrev pub file_too_long_text : List ℕ → List ℕ
file_too_long_text name = codes "fault FileTooLong name=" ++ word_text name
