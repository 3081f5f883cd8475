-- What is kept stays right, and what a ticket holds is enough; each is proved on a function of src/laws.rt.
use Rattle.std.specs.Prelude.{◌≡◌, ◌≢◌, ℕ, ◌-◌, ◌≤◌, List, [], ◌∷◌, ◌++◌, take, length, Contains, Bool, true, not, ◌||◌, nat_le, Some}
use Rattle.std.specs.List.{filter, find, list_any}
use Rattle.req_tree.specs.Subject.{Subject}
use Rattle.req_tree.specs.Facts.{Facts}
use Rattle.policy_model.specs.Rules.{Kind, is_below}
use Rattle.policy_model.specs.Tables.{Tables}
use Rattle.policy_model.specs.Contents.{Edit}
use Rattle.policy_model.specs.Edits.{does}
use Rattle.policy_model.specs.Outcomes.{outcome, verdict_by, Ask}
use Rattle.policy_model.specs.History.{Event, offer, Entry, Opening, tables_of, now_of, ask_answer, HasOwnIds, fresh}
use Rattle.object_model.specs.Objects.{kept, is_unexpired, outlasts, is_for, ends, inhibits, by_rules}
use Rattle.object_model.specs.Past.{mark_of}
use Rattle.object_model.specs.Rings.{ring_of, moved_by}
use Rattle.object_model.specs.Kept.{entry_of, decision_of, objects_of}
use Rattle.object_model.specs.declared.limits.TheConstants.{MOST_ENTRIES, LATE_EDITS}
use Rattle.object_model.specs.Tickets.{Ticket, ticket_ask, IsTicketOf, judged}
use Rattle.object_model.specs.Fresh.{StillSays, IsFresh, AreFresh, IsSound, opening_after}

-- a desk that begins soundly is sound after any history
abbrev pub StaysSound : Type 0
StaysSound = (o : Opening) (h : List Event) → IsSound o → IsSound (opening_after o h)

-- a desk of which nothing was kept is sound
abbrev pub FreshIsSound : Type 0
FreshIsSound = (facts : Facts) → IsSound (fresh facts)

-- a kept entry is what the rules say at every moment before its end
abbrev pub HoldsUntil : Type 0
HoldsUntil = (o : Opening) (h : List Event) (e : Entry) (m : ℕ) → IsSound o → Contains (objects_of o h) e → now_of o h ≤ m → is_unexpired m e ≡ true →
    StillSays e.outcome (outcome (tables_of o h).rows e.kind e.subject o.facts m)

-- an entry that is found for a kind and a subject answers as the rules do
abbrev pub FoundAnswers : Type 0
FoundAnswers = (o : Opening) (h : List Event) (kind : Kind) (subject : Subject) (keep : Bool) (e : Entry) → IsSound o →
    find (is_for kind subject) (objects_of o h) ≡ Some e →
    verdict_by (tables_of o h).enabled (now_of o h) e.outcome ≡ ask_answer o h (record { kind = kind; subject = Some subject; keep = keep })

-- a later moment keeps entries fresh, from any state in which they are
abbrev pub TickKeeps : Type 0
TickKeeps = (t : Tables) (facts : Facts) (now later : ℕ) (objects : List Entry) → HasOwnIds t → now ≤ later →
    AreFresh t.rows facts now objects → AreFresh t.rows facts later (filter (is_unexpired later) objects)

-- so does an edit
abbrev pub EditKeeps : Type 0
EditKeeps = (t : Tables) (facts : Facts) (now : ℕ) (objects : List Entry) (e : Edit) → HasOwnIds t →
    AreFresh t.rows facts now objects → AreFresh (does t e).tables.rows facts now (filter (outlasts (does t e).touched) objects)

-- an offer that is kept is fresh, whatever the entries are
abbrev pub OfferKeeps : Type 0
OfferKeeps = (o : Opening) (h : List Event) (objects : List Entry) (k : ℕ) (a : Ask) (s : Subject) → HasOwnIds o.tables →
    decision_of o h objects k a s ≡ kept → IsFresh (tables_of o h).rows o.facts (now_of o h) (entry_of o (take k h) a s)

-- a ticket stays that of its place until it is offered
abbrev pub TicketStays : Type 0
TicketStays = (t : Ticket) (o : Opening) (h : List Event) (k : ℕ) (e : Event) → e ≢ offer k → IsTicketOf t o h k → IsTicketOf t o (h ++ e ∷ []) k

-- a ticket says what the rules said as the assessment began
abbrev pub TicketJudges : Type 0
TicketJudges = (t : Ticket) (o : Opening) (h : List Event) (k : ℕ) → IsTicketOf t o h k →
    judged t ≡ (entry_of o (take k h) (ticket_ask t) t.subject).outcome

-- its verdict is the legal one
abbrev pub TicketAnswers : Type 0
TicketAnswers = (t : Ticket) (o : Opening) (h : List Event) (k : ℕ) → IsTicketOf t o h k →
    verdict_by t.enabled t.at (judged t) ≡ ask_answer o (take k h) (ticket_ask t)

-- what becomes of its offer is read off the ticket, the counts, the ring and the entries
abbrev pub TicketDecides : Type 0
TicketDecides = (t : Ticket) (o : Opening) (h : List Event) (k : ℕ) → IsTicketOf t o h k →
    decision_of o h (objects_of o h) k (ticket_ask t) t.subject
    ≡ by_rules (not t.keep || inhibits (judged t)) (moved_by LATE_EDITS (judged t) (mark_of o h t.kind - t.mark) (ring_of LATE_EDITS o h t.kind)) (not (is_below (now_of o h) (ends (judged t))))
    (list_any (is_for t.kind t.subject) (objects_of o h)) (nat_le MOST_ENTRIES (length (objects_of o h)))
