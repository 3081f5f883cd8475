-- What the commands `add`, `remove`, `enable`, `disable`, `expire` and `switch` say. This project's own, after spctl(8).
use Rattle.std.specs.Prelude.{◌≡◌, ℕ, List, Result, Ok, Err}
use Rattle.line_reader.specs.Lines.{with_lf}
use Rattle.line_model.specs.LineFaults.{LineFault, line_fault_text}
use Rattle.line_model.specs.Edits.{IsEditLine}
use Rattle.policy_model.specs.Contents.{Edit}
use Rattle.policy_model.specs.History.{Event, Opening}
use Rattle.run_status.specs.declared.status.Status.{Status}
use Rattle.table_commands.specs.Replies.{EditReplies, is_refusal, refused_when}

-- a reply with its LF is said, and the status is that of a refusal or of none
pub record SaysReply (Replies : List ℕ → Type 0) (status : Status) (text : List ℕ) : Type 0 where
  pub reply : List ℕ
  pub replies : Replies reply
  pub status_is : status ≡ refused_when (is_refusal reply)
  pub text_is : text ≡ with_lf reply

-- the reply to what a line asks for, or to its first fault, which changes nothing
abbrev pub LineReplies : Opening → List Event → List Event → Result Edit LineFault → List ℕ → Type 0
LineReplies o h after (Ok e) reply = EditReplies o h e reply after
LineReplies o h after (Err fault) reply = (reply ≡ line_fault_text fault) × (after ≡ h)

-- from the opening o and the history h on: what is said of the line of an edit, by the status, and the history after it
pub record SaysEdit (o : Opening) (h : List Event) (line : List ℕ) (status : Status) (text : List ℕ) (after : List Event) : Type 0 where
  pub asked : Result Edit LineFault
  pub asks : IsEditLine line asked
  pub says : SaysReply (LineReplies o h after asked) status text
