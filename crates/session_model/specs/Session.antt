-- What a session is: lines, the reply to each, and the state that they lead to. This project's own.
use Rattle.std.specs.Prelude.{◌≡◌, ◌⊎◌, List, [], ◌∷◌, ◌++◌, length, ℕ, Result, Ok, Err, codes}
use Rattle.std.specs.List.{find}
use Rattle.policy_model.specs.History.{Event, Opening, tables_of, now_of, edit_answer}
use Rattle.policy_model.specs.History as event
use Rattle.policy_model.specs.ReplyTexts.{now_text, answer_text}
use Rattle.policy_model.specs.Tables.{IsAccepted}
use Rattle.object_model.specs.Kept.{objects_of}
use Rattle.line_model.specs.LineFaults.{LineFault, line_fault_text}
use Rattle.session_model.specs.Lines.{Request, tick, assess, begin, finish, status, edit, IsAsked}
use Rattle.session_model.specs.Slots.{State, Answered, has_number, finished, begins, finishes}
use Rattle.session_model.specs.StatusText.{status_text}

-- nothing has happened, and nothing is begun
abbrev pub begun : State
begun = record { history = []; slots = [] }

-- after one more event, with a reply
abbrev pub happens : Event → List ℕ → State → Answered
happens e reply s = record { reply = reply; after = record { history = s.history ++ e ∷ []; slots = s.slots } }

-- from the opening o and the state s on: the reply to what a line asks for, and the state after it
abbrev pub answered : Opening → State → Request → Answered
answered o s (tick m) = happens (event.tick m) (now_text (now_of o (s.history ++ event.tick m ∷ []))) s
answered o s (assess a) = finished o (s.history ++ event.ask a ∷ []) (length s.history) a s.slots
answered o s (begin n a) = begins o s n a
answered o s (finish n) = finishes o s n (find (has_number n) s.slots)
answered o s status = happens event.look (status_text (tables_of o s.history) (length (objects_of o s.history)) (now_of o s.history)) s
answered o s (edit e) = happens (event.edit e) (answer_text (edit_answer o s.history e)) s

-- the reply and the state after it are those of an answer
abbrev pub IsAnswer : Answered → List ℕ → State → Type 0
IsAnswer a reply after = (after ≡ a.after) × (reply ≡ a.reply)

-- the reply to an edit that the keeper failed to keep
abbrev pub keeper_fault_text : List ℕ
keeper_fault_text = codes "refused edit 16 KeeperFault"

-- the keeper fails to keep an edit that would be accepted, and nothing changes
abbrev pub Fails : Opening → State → Request → List ℕ → State → Type 0
Fails o s (edit e) reply after = IsAccepted (edit_answer o s.history e) × IsAnswer (happens (event.edit_failed e) keeper_fault_text s) reply after
Fails o s other reply after = ⊥

-- the reply to what a line asks for, or to its fault, and the state after it; that a keeper fails is the one free choice
abbrev pub Replies : Opening → State → Result Request LineFault → List ℕ → State → Type 0
Replies o s (Ok request) reply after = IsAnswer (answered o s request) reply after ⊎ Fails o s request reply after
Replies o s (Err fault) reply after = (after ≡ s) × (reply ≡ line_fault_text fault)

-- the lines get the replies, line by line, and lead from the state s to the state after
abbrev pub Session : Opening → State → List (List ℕ) → List (List ℕ) → State → Type 0
Session o s [] [] after = after ≡ s
Session o s (line ∷ lines) (reply ∷ replies) after =
    (asked : Result Request LineFault) × (mid : State) × IsAsked line asked × Replies o s asked reply mid × Session o mid lines replies after
Session o s [] (reply ∷ replies) after = ⊥
Session o s (line ∷ lines) [] after = ⊥

-- the lines get the replies, whatever state they lead to
abbrev pub Answers : Opening → State → List (List ℕ) → List (List ℕ) → Type 0
Answers o s lines replies = (after : State) × Session o s lines replies after
