-- What has happened on a desk, and where it stands after that. This project's own.
use Rattle.std.specs.Prelude.{◌≡◌, ℕ, ◌<◌, ◌≤◌, max, List, [], ◌∷◌, length, All, AllPairs, true, false, bytes_eq}
use Rattle.req_tree.specs.Subject.{Subject}
use Rattle.req_tree.specs.Facts.{Facts}
use Rattle.policy_model.specs.Rules.{Row, Kind}
use Rattle.policy_model.specs.Contents.{Edit}
use Rattle.policy_model.specs.Tables.{Receipt, Tables, Answer}
use Rattle.policy_model.specs.Edits.{does}
use Rattle.policy_model.specs.Outcomes.{Outcome, Ask, Verdict, verdict}

-- an outcome that is kept for a kind and a subject
pub record Entry : Type 0 where
  pub kind : Kind
  pub subject : Subject
  pub outcome : Outcome

-- how many edits touched each kind
pub record Counts : Type 0 where
  pub execute : ℕ
  pub install : ℕ
  pub document : ℕ

-- where a desk begins: tables, facts, a moment, kept entries, counts of edits
pub record Opening : Type 0 where
  pub tables : Tables
  pub facts : Facts
  pub now : ℕ
  pub entries : List Entry
  pub counts : Counts

-- what happens on a desk; an edit that was refused is answered too
pub data Event : Type 0 where
  -- a moment was handed in
  tick : ℕ → Event
  -- an assessment began
  ask : Ask → Event
  -- the assessment that began at this place of the history was finished
  offer : ℕ → Event
  -- an edit was answered
  edit : Edit → Event
  -- an edit that would have been accepted wasn't kept by the keeper
  edit_failed : Edit → Event
  -- an edit that would have been accepted found no memory
  edit_starved : Edit → Event
  -- the status or the list was read
  look : Event

-- the tables after an event: an answered edit alone changes them
abbrev pub tables_step : Event → Tables → Tables
tables_step (tick m) t = t
tables_step (ask a) t = t
tables_step (offer k) t = t
tables_step (edit e) t = (does t e).tables
tables_step (edit_failed e) t = t
tables_step (edit_starved e) t = t
tables_step look t = t

-- the moment after an event: a tick alone moves it, and never back
abbrev pub now_step : Event → ℕ → ℕ
now_step (tick m) now = max now m
now_step (ask a) now = now
now_step (offer k) now = now
now_step (edit e) now = now
now_step (edit_failed e) now = now
now_step (edit_starved e) now = now
now_step look now = now

-- the tables after some events
abbrev pub tables_after : List Event → Tables → Tables
tables_after [] t = t
tables_after (e ∷ es) t = tables_after es (tables_step e t)

-- the moment after some events
abbrev pub now_after : List Event → ℕ → ℕ
now_after [] now = now
now_after (e ∷ es) now = now_after es (now_step e now)

-- the tables after a history
abbrev pub tables_of : Opening → List Event → Tables
tables_of o h = tables_after h o.tables

-- the greatest moment that was handed in
abbrev pub now_of : Opening → List Event → ℕ
now_of o h = now_after h o.now

-- the legal answer to an ask after a history
abbrev pub ask_answer : Opening → List Event → Ask → Verdict
ask_answer o h a = verdict (tables_of o h).rows (tables_of o h).enabled o.facts (now_of o h) a

-- the legal answer to an edit after a history
abbrev pub edit_answer : Opening → List Event → Edit → Answer
edit_answer o h e = (does (tables_of o h) e).answer

-- ids rise from row to row, and none is above the number of receipts
pub record HasOwnIds (t : Tables) : Type 0 where
  pub apart : AllPairs (λ (a b : Row). a.id < b.id) t.rows
  pub numbered : All (λ (r : Row). r.id ≤ length t.receipts) t.rows

-- no two receipts have one key
pub record HasOwnKeys (t : Tables) : Type 0 where
  pub apart : AllPairs (λ (a b : Receipt). bytes_eq a.key b.key ≡ false) t.receipts

-- no rules, no receipts, assessments switched on
abbrev pub empty_tables : Tables
empty_tables = record { rows = []; receipts = []; enabled = true }

-- where a desk with these facts begins when nothing was kept
abbrev pub fresh : Facts → Opening
fresh facts = record {
  tables = empty_tables;
  facts = facts;
  now = 0;
  entries = [];
  counts = record { execute = 0; install = 0; document = 0 };
}
