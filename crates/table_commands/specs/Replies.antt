-- The replies to edits that a command's words or a file ask for, on a desk whose tables a keeper keeps. This project's own.
use Rattle.std.specs.Prelude.{◌≡◌, ◌⊎◌, ℕ, List, [], ◌∷◌, ◌++◌, length, take, Bool, if◌then◌else◌, codes, bytes_eq}
use Rattle.policy_model.specs.Contents.{Edit}
use Rattle.policy_model.specs.Tables.{IsAccepted}
use Rattle.policy_model.specs.History.{Event, edit, edit_failed, Opening, edit_answer}
use Rattle.policy_model.specs.ReplyTexts.{answer_text}
use Rattle.run_status.specs.declared.status.Status.{Status}
use Rattle.run_status.specs.declared.status.Status.TheVariants.{Fine, Refused}

-- the edit would have been accepted, and the keeper failed
abbrev pub keeper_fault_text : List ℕ
keeper_fault_text = codes "refused edit 16 KeeperFault"

-- the edit was answered from the opening o and the history h on, and that is what has happened
pub record IsAnswered (o : Opening) (h : List Event) (e : Edit) (reply : List ℕ) (after : List Event) : Type 0 where
  pub reply_is : reply ≡ answer_text (edit_answer o h e)
  pub after_is : after ≡ h ++ edit e ∷ []

-- the edit would have been accepted and wasn't kept, and that is what has happened
pub record IsUnkept (o : Opening) (h : List Event) (e : Edit) (reply : List ℕ) (after : List Event) : Type 0 where
  pub would : IsAccepted (edit_answer o h e)
  pub reply_is : reply ≡ keeper_fault_text
  pub after_is : after ≡ h ++ edit_failed e ∷ []

-- from the opening o and the history h on: the reply to an edit, and the history after it
abbrev pub EditReplies : Opening → List Event → Edit → List ℕ → List Event → Type 0
EditReplies o h e reply after = IsAnswered o h e reply after ⊎ IsUnkept o h e reply after

-- edits one after another, each with its reply
abbrev pub EditsReply : Opening → List Event → List Edit → List (List ℕ) → List Event → Type 0
EditsReply o h [] [] after = after ≡ h
EditsReply o h (e ∷ es) (reply ∷ replies) after = (mid : List Event) × EditReplies o h e reply mid × EditsReply o mid es replies after
EditsReply o h [] (reply ∷ replies) after = ⊥
EditsReply o h (e ∷ es) [] after = ⊥

-- a line begins with the word of a refusal
abbrev pub is_refusal : List ℕ → Bool
is_refusal line = bytes_eq (codes "refused") (take (length (codes "refused")) line)

-- the status of a run that wrote a refusal, or none
abbrev pub refused_when : Bool → Status
refused_when refused = if refused then Refused else Fine
