-- What a line under construction holds.
use Rattle.std.specs.Prelude.{ℕ, List}
use Rattle.line_text.specs.declared.line.LineText.{LineText}

-- the bytes of the line so far
abbrev pub line_bytes : LineText → List ℕ
line_bytes line = line.bytes.items
