-- Assessments that are begun and not finished. This project's own.
use Rattle.std.specs.Prelude.{ℕ, List, [], ◌∷◌, ◌++◌, length, Bool, cond, ◌==◌, nat_le, Option, Some, None, slice_get, if◌then◌else◌, codes, decimal}
use Rattle.std.specs.List.{list_any}
use Rattle.policy_model.specs.Outcomes.{Ask}
use Rattle.policy_model.specs.History.{Event, Opening, now_of}
use Rattle.policy_model.specs.History as event
use Rattle.session_model.specs.declared.limits.TheConstants.{MOST_SLOTS}
use Rattle.session_model.specs.Finishing.{finished_text, finished_history}

-- one that is begun: its number, and the place of its ask
pub record Slot : Type 0 where
  pub number : ℕ
  pub place : ℕ

-- where a session stands: what has happened on the desk, and what is begun
pub record State : Type 0 where
  pub history : List Event
  pub slots : List Slot

-- a reply, and the state after it
pub record Answered : Type 0 where
  pub reply : List ℕ
  pub after : State

-- a refusal changes nothing
abbrev pub refused : List ℕ → State → Answered
refused text s = record { reply = text; after = s }

-- it has the number
abbrev pub has_number : ℕ → Slot → Bool
has_number n slot = slot.number == n

-- a list but the first that passes
abbrev pub but_first : {A : Type 0} → (A → Bool) → List A → List A
but_first test [] = []
but_first test (x ∷ xs) = cond (test x) xs (x ∷ but_first test xs)

-- the slots but the one of this number
abbrev pub without : ℕ → List Slot → List Slot
without n slots = but_first (has_number n) slots

-- begun N at=M
abbrev pub begun_text : ℕ → ℕ → List ℕ
begun_text n m = codes "begun " ++ decimal n ++ codes " at=" ++ decimal m

-- the ask at place k, finished now; these are still begun
abbrev pub finished : Opening → List Event → ℕ → Ask → List Slot → Answered
finished o h k a rest = record { reply = finished_text o h k a; after = record { history = finished_history o h k a; slots = rest } }

-- an ask at the end of the history, under a number
abbrev pub begins_now : Opening → State → ℕ → Ask → Answered
begins_now o s n a = record {
  reply = begun_text n (now_of o s.history);
  after = record { history = s.history ++ event.ask a ∷ []; slots = s.slots ++ record { number = n; place = length s.history } ∷ [] };
}

-- a number that is begun is refused, and then a number too many
abbrev pub begins : Opening → State → ℕ → Ask → Answered
begins o s n a =
    if list_any (has_number n) s.slots then refused (codes "refused session 21 SlotBusy") s
    else if nat_le MOST_SLOTS (length s.slots) then refused (codes "refused session 23 SlotsFull") s
    else begins_now o s n a

-- the assessment under number n, whose ask this event is, is finished, and n is free again
abbrev pub finishes_at : Opening → State → ℕ → ℕ → Option Event → Answered
finishes_at o s n k (Some (event.ask a)) = finished o s.history k a (without n s.slots)
finishes_at o s n k other = refused (codes "refused session 22 SlotEmpty") s

-- the one that is begun under number n, if there is one
abbrev pub finishes : Opening → State → ℕ → Option Slot → Answered
finishes o s n None = refused (codes "refused session 22 SlotEmpty") s
finishes o s n (Some slot) = finishes_at o s n slot.place (slice_get s.history slot.place)
