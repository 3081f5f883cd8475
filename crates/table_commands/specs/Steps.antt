-- What one edit adds to the replies that a command has so far.
use Rattle.std.specs.Prelude.{◌≡◌, ◌≢◌, ◌⊎◌, ℕ, List, [], ◌++◌, Bool}
use Rattle.std.specs.List.{list_any}
use Rattle.line_reader.specs.Lines.{with_lf, text_of}
use Rattle.run_status.specs.declared.status.Status.{Status}
use Rattle.run_status.specs.declared.status.Status.TheVariants.{OutOfMemory}
use Rattle.policy_model.specs.Contents.{Edit}
use Rattle.policy_model.specs.History.{Event, Opening}
use Rattle.desk_state.specs.declared.desk.Desk.{Desk}
use Rattle.desk_state.specs.Stands.{Stands}
use Rattle.desk_state.specs.Failures.{Shows}
use Rattle.table_commands.specs.Replies.{EditReplies, EditsReply, is_refusal, refused_when}

-- from the opening o and the history h on the edit got this reply, and the desk is where that leads to; no more edits failed than the
-- keeper's count rose by, from before to counted
abbrev pub Came : Opening → List Event → Edit → Desk → ℕ → ℕ → List ℕ → Type 0
Came o h e desk before counted reply = (after : List Event) × EditReplies o h e reply after × Stands desk o after × Shows h after before counted

-- the same, and the reply stands behind the text so far
pub record Replies (o : Opening) (h : List Event) (e : Edit) (desk : Desk) (before counted : ℕ) (old new : List ℕ) (refused : Bool) : Type 0 where
  pub reply : List ℕ
  pub came : Came o h e desk before counted reply
  pub text_is : new ≡ old ++ with_lf reply
  pub refused_is : refused ≡ is_refusal reply

-- all edits have their replies, and no more failed than the keeper's count rose by
pub record AllReply (o : Opening) (h : List Event) (edits : List Edit) (desk : Desk) (before counted : ℕ) (text : List ℕ) (refused : Bool) : Type 0 where
  pub replies : List (List ℕ)
  pub after : List Event
  pub answers : EditsReply o h edits replies after
  pub stands : Stands desk o after
  pub shows : Shows h after before counted
  pub text_is : text ≡ text_of replies
  pub refused_is : refused ≡ list_any is_refusal replies

-- the first edits have their replies, and others are left; no more failed than the keeper's count rose by
pub record FrontReplies (o : Opening) (h : List Event) (edits : List Edit) (desk : Desk) (before counted : ℕ) (text : List ℕ) : Type 0 where
  pub front : List Edit
  pub rear : List Edit
  pub parts : edits ≡ front ++ rear
  pub left : rear ≢ []
  pub replies : List (List ℕ)
  pub after : List Event
  pub answers : EditsReply o h front replies after
  pub stands : Stands desk o after
  pub shows : Shows h after before counted
  pub text_is : text ≡ text_of replies

-- all edits have their replies, and the status says whether one is a refusal
pub record IsThrough (o : Opening) (h : List Event) (edits : List Edit) (desk : Desk) (before counted : ℕ) (status : Status) (text : List ℕ) : Type 0 where
  pub any : Bool
  pub all : AllReply o h edits desk before counted text any
  pub status_is : status ≡ refused_when any

-- there was no memory for all
pub record IsStopped (o : Opening) (h : List Event) (edits : List Edit) (desk : Desk) (before counted : ℕ) (status : Status) (text : List ℕ) : Type 0 where
  pub some : FrontReplies o h edits desk before counted text
  pub status_is : status ≡ OutOfMemory

-- what comes of edits one after another, while the keeper's count goes from before to counted
abbrev pub Comes : Opening → List Event → List Edit → Desk → ℕ → ℕ → Status → List ℕ → Type 0
Comes o h edits desk before counted status text =
    IsThrough o h edits desk before counted status text ⊎ IsStopped o h edits desk before counted status text
