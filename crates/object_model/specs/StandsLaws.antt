-- Each call leaves a desk standing for the history with its event added; each is proved on a function of src/laws.rt.
use Rattle.std.specs.Prelude.{◌≡◌, ℕ, ◌≤◌, List, [], ◌∷◌, ◌++◌, length, Bool, true, false, Some}
use Rattle.std.specs.List.{find, list_any}
use Rattle.req_tree.specs.Subject.{Subject}
use Rattle.policy_model.specs.Rules.{Row, Kind}
use Rattle.policy_model.specs.Contents.{Edit}
use Rattle.policy_model.specs.Tables.{IsAccepted}
use Rattle.policy_model.specs.Edits.{does}
use Rattle.policy_model.specs.Outcomes.{verdict_by}
use Rattle.policy_model.specs.History.{HasOwnIds, Event, tick, ask, offer, edit, edit_failed, edit_starved, Entry, Opening, ask_answer}
use Rattle.object_model.specs.Objects.{is_for}
use Rattle.object_model.specs.Fresh.{IsSound}
use Rattle.object_model.specs.Past.{count_of}
use Rattle.object_model.specs.Plain.{Plain, begun_at}
use Rattle.object_model.specs.Kept.{decision_of, objects_of}
use Rattle.object_model.specs.Tickets.{Ticket, ticket_ask, DecideAlike, IsTicketOf}
use Rattle.object_model.specs.Stands.{Stands, is_quiet, ticket_on, ticked, edited, offered, finished, IsFreshDesk}

-- a sound desk stands for no events
abbrev pub OpeningStands : Type 0
OpeningStands = (o : Opening) → IsSound o → Stands (begun_at o) o []

-- a moment that is handed in
abbrev pub TickStands : Type 0
TickStands = (d : Plain) (o : Opening) (h : List Event) (m : ℕ) → Stands d o h → Stands (ticked m d) o (h ++ tick m ∷ [])

-- an ask and a look
abbrev pub QuietStands : Type 0
QuietStands = (d : Plain) (o : Opening) (h : List Event) (e : Event) → is_quiet e ≡ true → Stands d o h → Stands d o (h ++ e ∷ [])

-- an edit that the keeper didn't keep and that would have been accepted
abbrev pub FailedStands : Type 0
FailedStands = (d : Plain) (o : Opening) (h : List Event) (e : Edit) → IsAccepted (does d.tables e).answer → Stands d o h → Stands d o (h ++ edit_failed e ∷ [])

-- one that found no memory and that would have been accepted
abbrev pub StarvedStands : Type 0
StarvedStands = (d : Plain) (o : Opening) (h : List Event) (e : Edit) → IsAccepted (does d.tables e).answer → Stands d o h → Stands d o (h ++ edit_starved e ∷ [])

-- an edit that is answered
abbrev pub EditStands : Type 0
EditStands = (d : Plain) (o : Opening) (h : List Event) (e : Edit) → Stands d o h → Stands (edited e d) o (h ++ edit e ∷ [])

-- a kept outcome answers as the rules would
abbrev pub KnownAnswers : Type 0
KnownAnswers = (d : Plain) (o : Opening) (h : List Event) (kind : Kind) (subject : Subject) (keep : Bool) (e : Entry) → Stands d o h →
    find (is_for kind subject) d.entries ≡ Some e →
    verdict_by d.tables.enabled d.now e.outcome ≡ ask_answer o h (record { kind = kind; subject = Some subject; keep = keep })

-- where there is none, what begins has a ticket of the ask's place
abbrev pub BeginGives : Type 0
BeginGives = (d : Plain) (o : Opening) (h : List Event) (kind : Kind) (subject : Subject) (keep : Bool) (rows : List Row) → Stands d o h →
    list_any (is_for kind subject) d.entries ≡ false → DecideAlike kind d.tables.rows rows →
    IsTicketOf (ticket_on d kind subject keep rows) o (h ++ ask (record { kind = kind; subject = Some subject; keep = keep }) ∷ []) (length h)

-- finishing a ticket gives the decision of the history, and leaves the desk standing for the history with the offer
abbrev pub FinishStands : Type 0
FinishStands = (d : Plain) (o : Opening) (h : List Event) (k : ℕ) (t : Ticket) → Stands d o h → IsTicketOf t o h k →
    (offered t d ≡ decision_of o h (objects_of o h) k (ticket_ask t) t.subject) × Stands (finished t d) o (h ++ offer k ∷ [])

-- a moment that is handed in keeps a desk fresh, from any state that is
abbrev pub TickKeepsFresh : Type 0
TickKeepsFresh = (d : Plain) (m : ℕ) → HasOwnIds d.tables → IsFreshDesk d → IsFreshDesk (ticked m d)

-- so does an edit
abbrev pub EditKeepsFresh : Type 0
EditKeepsFresh = (d : Plain) (e : Edit) → HasOwnIds d.tables → IsFreshDesk d → IsFreshDesk (edited e d)

-- a desk that stands for a history is fresh
abbrev pub StandsFresh : Type 0
StandsFresh = (d : Plain) (o : Opening) (h : List Event) → Stands d o h → IsFreshDesk d

-- a mark that is at most the number of receipts stays so
abbrev pub MarksStayBelow : Type 0
MarksStayBelow = (d : Plain) (e : Edit) (kind : Kind) → count_of kind d.counts ≤ length d.tables.receipts → count_of kind (edited e d).counts ≤ length (edited e d).tables.receipts
