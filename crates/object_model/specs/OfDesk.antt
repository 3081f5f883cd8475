-- What was judged on a desk that has gone on since, and its offer. This project's own.
use Rattle.std.specs.Prelude.{◌≡◌, ℕ, ◌-◌, ◌≤◌, length, Bool, false, not, ◌||◌, nat_le}
use Rattle.std.specs.List.{list_any}
use Rattle.req_tree.specs.Subject.{Subject}
use Rattle.policy_model.specs.Rules.{Kind, is_below}
use Rattle.policy_model.specs.Outcomes.{Outcome, outcome}
use Rattle.object_model.specs.declared.limits.TheConstants.{MOST_ENTRIES, LATE_EDITS}
use Rattle.object_model.specs.Objects.{Offered, is_for, ends, inhibits, by_rules, with_offer}
use Rattle.object_model.specs.Past.{count_of}
use Rattle.object_model.specs.Rings.{moved_by}
use Rattle.object_model.specs.Plain.{Plain, ring_in}
use Rattle.object_model.specs.Tickets.{Ticket, judged}

-- what was judged is of a desk that holds this: it began no later than now, and unless edits since have moved it,
-- it is what the rules of now say of that moment
pub record IsOfDesk (d : Plain) (kind : Kind) (subject : Subject) (at mark : ℕ) (said : Outcome) : Type 0 where
  pub began : at ≤ d.now
  pub counted : mark ≤ count_of kind d.counts
  pub says : moved_by LATE_EDITS said (count_of kind d.counts - mark) (ring_in kind d.rings) ≡ false → said ≡ outcome d.tables.rows kind subject d.facts at

-- a ticket is of a desk that holds this, by what it judges
abbrev pub IsTicketOfDesk : Plain → Ticket → Type 0
IsTicketOfDesk d t = IsOfDesk d t.kind t.subject t.at t.mark (judged t)

-- whatever is of the desk before is of the desk after
abbrev pub KeepsOf : Plain → Plain → Type 0
KeepsOf old new = (kind : Kind) (subject : Subject) (at mark : ℕ) (said : Outcome) → IsOfDesk old kind subject at mark said → IsOfDesk new kind subject at mark said

-- what becomes of an outcome that is offered on a desk that holds this
abbrev pub offered_by : Kind → Subject → Bool → ℕ → Outcome → Plain → Offered
offered_by kind subject keep mark said d =
    by_rules (not keep || inhibits said) (moved_by LATE_EDITS said (count_of kind d.counts - mark) (ring_in kind d.rings)) (not (is_below d.now (ends said)))
    (list_any (is_for kind subject) d.entries) (nat_le MOST_ENTRIES (length d.entries))

-- what the desk holds afterwards
abbrev pub settled_by : Kind → Subject → Bool → ℕ → Outcome → Plain → Plain
settled_by kind subject keep mark said d =
    record d { entries = with_offer (offered_by kind subject keep mark said d) (record { kind = kind; subject = subject; outcome = said }) d.entries }
