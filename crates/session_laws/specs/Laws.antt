-- What follows of all sessions; each is proved on a function of src/laws.rt. This project's own.
use Rattle.std.specs.Prelude.{◌≡◌, ◌≢◌, ℕ, List, ◌++◌, All, Result, Ok}
use Rattle.policy_model.specs.Contents.{Edit}
use Rattle.policy_model.specs.History.{Event, edit_failed, Opening, tables_of}
use Rattle.line_model.specs.LineFaults.{LineFault}
use Rattle.line_model.specs.Edits.{IsEditLine}
use Rattle.line_laws.specs.Limits.{AreBytes}
use Rattle.store_model.specs.Raw.{RawTables}
use Rattle.store_model.specs.Stored.{Holds}
use Rattle.store_model.specs.Accepted.{Accepts}
use Rattle.store_model.specs.Kept.{IsKept}
use Rattle.store_model.specs.Again.{IsReadAgain}
use Rattle.asked_edits.specs.Laws.{WasAsked}
use Rattle.session_model.specs.Lines.{Request, edit, IsAsked}
use Rattle.session_model.specs.Slots.{State}
use Rattle.session_model.specs.Session.{begun, Session}

-- a session's line that asks for an edit is the line of that edit
abbrev pub AsksByItsLine : Type 0
AsksByItsLine = (line : List ℕ) (e : Edit) → IsAsked line (Ok (edit e)) → IsEditLine line (Ok e)

-- what has happened stays so: a session's history begins with that of the state where it began
abbrev pub SessionGoesOn : Type 0
SessionGoesOn = (o : Opening) (s : State) (lines replies : List (List ℕ)) (after : State) → Session o s lines replies after
    → (more : List Event) × (after.history ≡ s.history ++ more)

-- the edits of a session were asked for by lines, where its own lines are bytes
abbrev pub SessionWasAsked : Type 0
SessionWasAsked = (o : Opening) (s : State) (lines replies : List (List ℕ)) (after : State) → Session o s lines replies after
    → All AreBytes lines → All WasAsked s.history → All WasAsked after.history

-- so a session leaves tables that are stored in accepted rows
abbrev pub SessionStaysKept : Type 0
SessionStaysKept = (o : Opening) (lines replies : List (List ℕ)) (after : State) → Session o begun lines replies after
    → All AreBytes lines → IsKept o.tables → IsKept (tables_of o after.history)

-- and the store that it left is read again by the next: from an accepted store a session leads to tables whose rows are accepted, refused
-- nowhere, and mean those tables alone
abbrev pub SessionIsReadAgain : Type 0
SessionIsReadAgain = (o : Opening) (lines replies : List (List ℕ)) (after : State) (raw left : RawTables) → Session o begun lines replies after
    → All AreBytes lines → Accepts raw → Holds raw o.tables → Holds left (tables_of o after.history) → IsReadAgain left (tables_of o after.history)

-- no edit of the history failed in the keeper
abbrev pub NoneFailed : List Event → Type 0
NoneFailed h = All (λ event. (e : Edit) → event ≢ edit_failed e) h

-- a line asks for one thing, or has one first fault
abbrev pub LineAsksForOne : Type 0
LineAsksForOne = (line : List ℕ) (a b : Result Request LineFault) → IsAsked line a → IsAsked line b → a ≡ b

-- where no edit failed, lines have one list of replies from a state on, and lead to one state
abbrev pub SessionIsOne : Type 0
SessionIsOne = (o : Opening) (s : State) (lines replies others : List (List ℕ)) (after end : State)
    → Session o s lines replies after → Session o s lines others end → NoneFailed after.history → NoneFailed end.history
    → (replies ≡ others) × (after ≡ end)

-- and no lines are without a session in which no edit fails
abbrev pub SessionIsThere : Type 0
SessionIsThere = (o : Opening) (s : State) (lines : List (List ℕ)) → NoneFailed s.history
    → ((replies : List (List ℕ)) (after : State) → Session o s lines replies after → NoneFailed after.history → ⊥) → ⊥
