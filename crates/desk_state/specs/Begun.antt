-- How an assessment begins.
use Rattle.std.specs.Prelude.{◌≡◌, ⊤, ◌∷◌, [], ◌++◌, List, length, false, Option, Some, None, option_map, codes}
use Rattle.std.specs.List.{find}
use Rattle.req_tree.specs.Subject.{Subject}
use Rattle.policy_model.specs.Rules.{Kind}
use Rattle.policy_model.specs.Outcomes.{Ask, Verdict, decided, verdict_by}
use Rattle.policy_model.specs.ReplyTexts.{Origin, cache, unsigned}
use Rattle.policy_model.specs.History.{Event, Opening, ask, ask_answer}
use Rattle.authority_table.specs.Snapshot.{IsSnapshot}
use Rattle.object_model.specs.Objects.{is_for}
use Rattle.object_model.specs.Plain.{Plain}
use Rattle.object_model.specs.Kept.{objects_of}
use Rattle.object_model.specs.Tickets as model
use Rattle.object_model.specs.Tickets.{IsTicketOf}
use Rattle.object_model.specs.Stands.{ticket_on}
use Rattle.object_model.specs.OfDesk.{IsTicketOfDesk}
use Rattle.object_model.specs.Origins.{origin_with}
use Rattle.desk_ticket.specs.Ticket.{ticket_of}
use Rattle.desk_state.specs.declared.begun.Begun as code
use Rattle.desk_state.specs.declared.begun.Begun.TheVariants.{Known, Pending}
use Rattle.desk_state.specs.Verdict.{verdict_of, origin_of}

-- a verdict and where it comes from
abbrev pub Answer : Type 0
Answer = Verdict × Origin

-- what answers an ask at once on a desk that holds this: that the code has no signature, or an entry that hasn't ended
abbrev pub known_on : Plain → Kind → Option Subject → Option Answer
known_on d kind None = Some (decided d.tables.enabled d.now false None None (codes "no usable signature"), unsigned)
known_on d kind (Some subject) =
    option_map (λ e. (verdict_by d.tables.enabled d.now e.outcome, cache)) (find (is_for kind subject) d.entries)

-- the ticket is that of this ask on a desk that holds this: with the rules of the kind, in the order in which they are tried
pub record IsTicketOn (d : Plain) (a : Ask) (t : model.Ticket) : Type 0 where
  pub subject_is : a.subject ≡ Some t.subject
  pub holds : t ≡ ticket_on d a.kind t.subject a.keep t.rows
  pub snapshot : IsSnapshot d.tables.rows a.kind t.rows

-- an ask is answered at once where something is known, and else has its ticket
abbrev pub IsBegun : Plain → Ask → code.Begun → Type 0
IsBegun d a (Known verdict) = known_on d a.kind a.subject ≡ Some (verdict_of verdict, origin_of verdict.origin)
IsBegun d a (Pending ticket) = (known_on d a.kind a.subject ≡ None) × IsTicketOn d a (ticket_of ticket)

-- the ticket that an ask has, if it has one, is of a desk that holds this
abbrev pub IsBegunOfDesk : Plain → code.Begun → Type 0
IsBegunOfDesk d (Known verdict) = ⊤
IsBegunOfDesk d (Pending ticket) = IsTicketOfDesk d (ticket_of ticket)

-- how an ask begins after a history: the legal answer and its origin, or the ticket of the place of the ask
abbrev pub BeginsAfter : Opening → List Event → Ask → code.Begun → Type 0
BeginsAfter o h a (Known verdict) = (verdict_of verdict ≡ ask_answer o h a) × (origin_of verdict.origin ≡ origin_with (objects_of o h) a.kind a.subject)
BeginsAfter o h a (Pending ticket) = IsTicketOf (ticket_of ticket) o (h ++ ask a ∷ []) (length h)
