-- What an assessment that has begun holds, so that its outcome and its verdict need no desk. This project's own.
use Rattle.std.specs.Prelude.{◌≡◌, ◌≢◌, ℕ, List, take, All, Bool, false, Some, slice_get}
use Rattle.std.specs.List.{list_any}
use Rattle.req_tree.specs.Subject.{Subject}
use Rattle.req_tree.specs.Facts.{Facts}
use Rattle.policy_model.specs.Rules.{Row, Kind}
use Rattle.policy_model.specs.Outcomes.{Outcome, outcome, Ask}
use Rattle.policy_model.specs.History.{Event, ask, offer, Opening, tables_of, now_of}
use Rattle.object_model.specs.Objects.{is_for}
use Rattle.object_model.specs.Past.{mark_of}
use Rattle.object_model.specs.Kept.{objects_of}

-- the facts, the ask, the moment, the switch, the count of edits of the kind, and rules that decide as all did, as the assessment began
pub record Ticket : Type 0 where
  pub facts : Facts
  pub kind : Kind
  pub subject : Subject
  pub keep : Bool
  pub at : ℕ
  pub enabled : Bool
  pub mark : ℕ
  pub rows : List Row

-- the ask of a ticket
abbrev pub ticket_ask : Ticket → Ask
ticket_ask t = record { kind = t.kind; subject = Some t.subject; keep = t.keep }

-- whatever is asked for of the kind, these rows say what all rows say
abbrev pub DecideAlike : Kind → List Row → List Row → Type 0
DecideAlike kind rows these = (subject : Subject) (facts : Facts) (m : ℕ) → outcome these kind subject facts m ≡ outcome rows kind subject facts m

-- the ticket is that of the ask at place k of h, which found no entry and isn't offered yet
pub record IsTicketOf (t : Ticket) (o : Opening) (h : List Event) (k : ℕ) : Type 0 where
  pub facts_are : t.facts ≡ o.facts
  pub begun : slice_get h k ≡ Some (ask (ticket_ask t))
  pub missed : list_any (is_for t.kind t.subject) (objects_of o (take k h)) ≡ false
  pub moment : t.at ≡ now_of o (take k h)
  pub switch : t.enabled ≡ (tables_of o (take k h)).enabled
  pub mark_is : t.mark ≡ mark_of o (take k h) t.kind
  pub decide : DecideAlike t.kind (tables_of o (take k h)).rows t.rows
  pub waits : All (λ e. e ≢ offer k) h

-- what a ticket says
abbrev pub judged : Ticket → Outcome
judged t = outcome t.rows t.kind t.subject t.facts t.at
