-- What a desk holds, and what each call makes of it; for which history it stands. This project's own.
use Rattle.std.specs.Prelude.{◌≡◌, ℕ, ◌+◌, ◌-◌, max, List, length, Bool, true, false, not, ◌||◌, nat_le, if◌then◌else◌}
use Rattle.std.specs.List.{filter, list_any}
use Rattle.req_tree.specs.Subject.{Subject}
use Rattle.policy_model.specs.Rules.{Row, Kind, execute, install, document, is_below}
use Rattle.policy_model.specs.Contents.{Edit}
use Rattle.policy_model.specs.Edits.{does}
use Rattle.policy_model.specs.History.{Event, tick, ask, offer, edit, edit_failed, edit_starved, look, Opening, Counts, tables_of, now_of}
use Rattle.object_model.specs.Objects.{Offered, is_unexpired, is_for, touches, ends, inhibits, by_rules, with_offer}
use Rattle.object_model.specs.Past.{count_of, counts_of}
use Rattle.object_model.specs.Purges.{purged_by}
use Rattle.object_model.specs.Kept.{objects_of}
use Rattle.object_model.specs.declared.limits.TheConstants.{MOST_ENTRIES, LATE_EDITS}
use Rattle.object_model.specs.Tickets.{Ticket, judged}
use Rattle.object_model.specs.Fresh.{AreFresh, IsSound, IsLegal}
use Rattle.object_model.specs.Rings.{moved_by}
use Rattle.object_model.specs.Plain.{Plain, ring_in, rings_of, rings_with}

-- a desk holds the parts of an opening, and rings; its entries are those that haven't ended
pub record Stands (d : Plain) (o : Opening) (h : List Event) : Type 0 where
  pub tables_are : d.tables ≡ tables_of o h
  pub facts_are : d.facts ≡ o.facts
  pub now_is : d.now ≡ now_of o h
  pub objects_are : d.entries ≡ objects_of o h
  pub counts_are : d.counts ≡ counts_of o h
  pub rings_are : d.rings ≡ rings_of o h
  pub sound : IsSound o
  pub legal : IsLegal o h

-- an event that changes nothing
abbrev pub is_quiet : Event → Bool
is_quiet (tick m) = false
is_quiet (ask a) = true
is_quiet (offer k) = false
is_quiet (edit e) = false
is_quiet (edit_failed e) = false
is_quiet (edit_starved e) = false
is_quiet look = true

-- a moment is handed in: what ends by then is dropped
abbrev pub ticked : ℕ → Plain → Plain
ticked m d = record d { now = max d.now m; entries = filter (is_unexpired (max d.now m)) d.entries }

-- one more, if so
abbrev pub one_more : Bool → ℕ → ℕ
one_more more n = n + (if more then 1 else 0)

-- the counts after an edit that touched these rows
abbrev pub counts_with : List Row → Counts → Counts
counts_with touched c = record {
  execute = one_more (touches execute touched) c.execute;
  install = one_more (touches install touched) c.install;
  document = one_more (touches document touched) c.document;
}

-- an edit is answered
abbrev pub edited : Edit → Plain → Plain
edited e d = record d {
  tables = (does d.tables e).tables;
  entries = purged_by (does d.tables e).touched d.entries;
  counts = counts_with (does d.tables e).touched d.counts;
  rings = rings_with (does d.tables e).touched d.rings;
}

-- the ticket of an assessment that begins on this desk, with the rules of the kind
abbrev pub ticket_on : Plain → Kind → Subject → Bool → List Row → Ticket
ticket_on d kind subject keep rows = record {
  facts = d.facts;
  kind = kind;
  subject = subject;
  keep = keep;
  at = d.now;
  enabled = d.tables.enabled;
  mark = count_of kind d.counts;
  rows = rows;
}

-- what becomes of a ticket's offer on this desk
abbrev pub offered : Ticket → Plain → Offered
offered t d =
    by_rules (not t.keep || inhibits (judged t)) (moved_by LATE_EDITS (judged t) (count_of t.kind d.counts - t.mark) (ring_in t.kind d.rings)) (not (is_below d.now (ends (judged t))))
    (list_any (is_for t.kind t.subject) d.entries) (nat_le MOST_ENTRIES (length d.entries))

-- a ticket is finished
abbrev pub finished : Ticket → Plain → Plain
finished t d = record d { entries = with_offer (offered t d) (record { kind = t.kind; subject = t.subject; outcome = judged t }) d.entries }

-- each entry of a desk is what its rules say now
abbrev pub IsFreshDesk : Plain → Type 0
IsFreshDesk d = AreFresh d.tables.rows d.facts d.now d.entries
