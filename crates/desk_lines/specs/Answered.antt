-- What a desk that answers lines has answered. This project's own.
use Rattle.std.specs.Prelude.{◌≡◌, ℕ, List, [], Result}
use Rattle.policy_model.specs.History.{Opening}
use Rattle.line_model.specs.LineFaults.{LineFault}
use Rattle.session_model.specs.Lines.{Request}
use Rattle.policy_model.specs.Outcomes.{Ask}
use Rattle.session_model.specs.Slots.{State, begins_now}
use Rattle.session_model.specs.Session.{Session, Replies}
use Rattle.desk_state.specs.Stands.{Stands}
use Rattle.desk_state.specs.declared.desk.Desk.{Desk}
use Rattle.desk_lines.specs.declared.slots.OpenSlot.{OpenSlot}
use Rattle.desk_lines.specs.Slots.{AreOpen}
use Rattle.desk_state.specs.Failures.{Shows}

-- the desk stands for what has happened, and no assessment is open
abbrev pub BeginsAt : Desk → Opening → State → Type 0
BeginsAt d o s = Stands d o s.history × (s.slots ≡ [])

-- since it stood at start the desk answered the lines by the replies, whatever its state had been; no more edits failed than the keeper's count rose by, from before to counted
abbrev pub HasAnswered : Desk → Desk → ℕ → ℕ → List (List ℕ) → List (List ℕ) → Type 0
HasAnswered start now before counted lines replies =
    (o : Opening) (s : State) → BeginsAt start o s
    → (after : State) × Session o s lines replies after × Stands now o after.history × Shows s.history after.history before counted

-- the desk and what is open stand for a state
abbrev pub IsAt : Desk → List OpenSlot → Opening → State → Type 0
IsAt d slots o s = Stands d o s.history × AreOpen o s.history 0 slots s.slots

-- the same as HasAnswered, and what is open stands for the state that was reached
abbrev pub HasAnsweredSo : Desk → Desk → List OpenSlot → ℕ → ℕ → List (List ℕ) → List (List ℕ) → Type 0
HasAnsweredSo start now slots before counted lines replies =
    (o : Opening) (s : State) → BeginsAt start o s
    → (after : State) × Session o s lines replies after × IsAt now slots o after × Shows s.history after.history before counted

-- from old to new the desk replied to what a line asks for, or to its fault, whatever its state had been
abbrev pub HasReplied : Desk → List OpenSlot → Desk → List OpenSlot → ℕ → ℕ → Result Request LineFault → List ℕ → Type 0
HasReplied old held new opened before counted asked reply =
    (o : Opening) (s : State) → Stands old o s.history → AreOpen o s.history 0 held s.slots
    → (after : State) × Replies o s asked reply after × Stands new o after.history × AreOpen o after.history 0 opened after.slots
    × Shows s.history after.history before counted

-- an assessment of this ask began under a number that was free, while there was room
abbrev pub BeginsAnew : Desk → List OpenSlot → List OpenSlot → ℕ → Ask → List ℕ → Type 0
BeginsAnew d held opened number a reply =
    (o : Opening) (s : State) → Stands d o s.history → AreOpen o s.history 0 held s.slots
    → (reply ≡ (begins_now o s number a).reply) × Stands d o (begins_now o s number a).after.history × AreOpen o (begins_now o s number a).after.history 0 opened (begins_now o s number a).after.slots
