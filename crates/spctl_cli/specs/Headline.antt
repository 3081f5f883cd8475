-- The headline: what a session that ends well has read and written. This project's own.
use Rattle.std.specs.Prelude.{ℕ, List, Option}
use Rattle.std.specs.Io.KnownBytes.{Appends, Consumes, IsAtEnd}
use Rattle.policy_model.specs.History.{Opening, tables_of}
use Rattle.policy_keeper.specs.Mirror.{Mirrors}
use Rattle.desk_state.specs.Failures.{Kept, Shows}
use Rattle.session_model.specs.Slots.{State}
use Rattle.session_model.specs.Session.{Session}
use Rattle.line_reader.specs.Lines.{lines_of, text_of}
use Rattle.line_reader.specs.Limits.{IsWithin}

-- the source lost all its bytes and is at its end, and the sink gained just the replies, each with its LF, that a session from
-- the opening o and the state s on gives to the lines of those bytes; it leads to the state after, whose tables the keeper then has; at most
-- as many edits failed as the keeper's count shows
pub record IsSession (kept : Kept) (o : Opening) (s after : State) (left now written sent : Option (List ℕ)) : Type 0 where
  pub bytes : List ℕ
  pub replies : List (List ℕ)
  pub taken : Consumes left now bytes
  pub at_end : IsAtEnd now
  pub within : IsWithin bytes
  pub put : Appends written sent (text_of replies)
  pub session : Session o s (lines_of bytes) replies after
  pub mirrors : Mirrors kept.told (tables_of o after.history)
  pub shows : Shows s.history after.history kept.before kept.counted
