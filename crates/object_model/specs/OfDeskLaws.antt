-- What was judged on a desk stays of it, and its offer keeps the desk fresh; each is proved on a function of src/laws.rt.
use Rattle.std.specs.Prelude.{ℕ, List, Bool}
use Rattle.req_tree.specs.Subject.{Subject}
use Rattle.policy_model.specs.Rules.{Row, Kind}
use Rattle.policy_model.specs.Contents.{Edit}
use Rattle.policy_model.specs.Outcomes.{Outcome}
use Rattle.policy_model.specs.History.{HasOwnIds, Event, Entry, Opening}
use Rattle.object_model.specs.Past.{count_of}
use Rattle.object_model.specs.Plain.{Plain}
use Rattle.object_model.specs.Tickets.{Ticket, DecideAlike, IsTicketOf, judged}
use Rattle.object_model.specs.Stands.{Stands, ticket_on, ticked, edited, finished, IsFreshDesk}
use Rattle.object_model.specs.OfDesk.{IsOfDesk, IsTicketOfDesk, KeepsOf, settled_by}

-- what begins now is of the desk, by rules that decide as all do
abbrev pub BeginsOfDesk : Type 0
BeginsOfDesk = (d : Plain) (kind : Kind) (subject : Subject) (keep : Bool) (rows : List Row) → DecideAlike kind d.tables.rows rows →
    IsOfDesk d kind subject d.now (count_of kind d.counts) (judged (ticket_on d kind subject keep rows))

-- a moment that is handed in keeps it so
abbrev pub TickKeepsOf : Type 0
TickKeepsOf = (d : Plain) (m : ℕ) → KeepsOf d (ticked m d)

-- so does an edit
abbrev pub EditKeepsOf : Type 0
EditKeepsOf = (d : Plain) (e : Edit) → HasOwnIds d.tables → KeepsOf d (edited e d)

-- and so does whatever changes the entries alone
abbrev pub EntriesKeepOf : Type 0
EntriesKeepOf = (d : Plain) (entries : List Entry) → KeepsOf d (record d { entries = entries })

-- the offer of what is of the desk keeps a desk fresh, from any state that is
abbrev pub OfferKeepsFresh : Type 0
OfferKeepsFresh = (d : Plain) (kind : Kind) (subject : Subject) (keep : Bool) (at mark : ℕ) (said : Outcome) → HasOwnIds d.tables →
    IsOfDesk d kind subject at mark said → IsFreshDesk d → IsFreshDesk (settled_by kind subject keep mark said d)

-- so does a ticket that is finished
abbrev pub FinishKeepsFresh : Type 0
FinishKeepsFresh = (d : Plain) (t : Ticket) → HasOwnIds d.tables → IsTicketOfDesk d t → IsFreshDesk d → IsFreshDesk (finished t d)

-- a ticket of a history is of the desk that stands for it
abbrev pub HistoryTicketsAreOf : Type 0
HistoryTicketsAreOf = (t : Ticket) (d : Plain) (o : Opening) (h : List Event) (k : ℕ) → Stands d o h → IsTicketOf t o h k → IsTicketOfDesk d t
