-- What is held of a line.
use Rattle.std.specs.Prelude.{ℕ, List}
use Rattle.line_reader.specs.declared.held_line.HeldLine.{HeldLine}

-- the bytes that are held
abbrev pub held_bytes : HeldLine → List ℕ
held_bytes line = line.bytes.items
