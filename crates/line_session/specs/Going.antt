-- A session that goes on line by line.
use Rattle.std.specs.Prelude.{◌≡◌, ℕ, List, Option, None, Some, All, length}
use Rattle.std.specs.Io.KnownBytes.{Appends, Consumes}
use Rattle.line_reader.specs.Lines.{text_of, HasNoLf}
use Rattle.line_reader.specs.Reading.{Stream}
use Rattle.line_session.specs.Ends.{IsEnd}
use Rattle.line_session.specs.declared.ended.Ended.{Ended}
use Rattle.line_session.specs.declared.ended.Ended.TheVariants.{WriteFault, OutOfMemory}
use Rattle.line_session.specs.declared.reply.Reply.{Reply}
use Rattle.line_session.specs.declared.reply.Reply.TheVariants.{Whole, Broken, Unanswered}

-- whole lines were handed on and answered, and their replies were written
pub record IsGoing (Answered : List (List ℕ) → List (List ℕ) → Type 0) (start : Option (List ℕ)) (now : Stream) (first sent : Option (List ℕ)) : Type 0 where
  pub lines : List (List ℕ)
  pub replies : List (List ℕ)
  pub taken : Consumes start now.unread (text_of lines)
  pub whole : All HasNoLf lines
  pub number : now.lines ≡ length lines
  pub size : now.bytes ≡ length (text_of lines)
  pub put : Appends first sent (text_of replies)
  pub answered : Answered lines replies

-- after one line the session goes on or ends
abbrev pub IsTurn : (List ℕ → Type 0) → (List (List ℕ) → List (List ℕ) → Type 0) → Option (List ℕ) → Option (List ℕ) → Stream → Option (List ℕ) → Option (List ℕ) → Option Ended → Type 0
IsTurn Takes Answered start left now first sent None = IsGoing Answered start now first sent
IsTurn Takes Answered start left now first sent (Some end) = IsEnd Takes Answered start left first sent end

-- how a session ends after a reply: as it would after a whole one, or at once
abbrev pub end_after : Reply → Option Ended → Option Ended
end_after Whole end = end
end_after Broken end = Some WriteFault
end_after Unanswered end = Some OutOfMemory
