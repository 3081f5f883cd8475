-- What the program's functions append to a line.
use Rattle.std.specs.Prelude.{◌≡◌, ◌≤◌, ℕ, ◌+◌, ◌++◌, length}
use Rattle.line_text.specs.LineText.{line_bytes}
use Rattle.rehearsal.specs.declared.draft.Draft.{Draft}
use Rattle.rehearsal.specs.Draws.{Piece}

-- the piece was appended to the line, with its draws taken, and has no more than so many bytes
pub record Lays (piece : Piece) (most : ℕ) (before after : Draft) : Type 0 where
  pub text : line_bytes after.line ≡ line_bytes before.line ++ (piece before.state).0
  pub state : after.state ≡ (piece before.state).1
  pub fits : length (line_bytes after.line) ≤ length (line_bytes before.line) + most
