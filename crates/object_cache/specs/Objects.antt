-- What the cache holds, and what becomes of an offer to it. This project's own.
use Rattle.std.specs.Prelude.{◌≡◌, ℕ, List, [], length, Bool, not, ◌||◌, ◌-◌, nat_le}
use Rattle.std.specs.List.{filter, list_any}
use Rattle.policy_model.specs.History.{Entry, Counts}
use Rattle.object_model.specs.Objects.{Offered, is_unexpired, is_for, inhibits, by_rules}
use Rattle.object_model.specs.Past.{count_of}
use Rattle.object_cache.specs.declared.objects.Objects.{Objects}
use Rattle.object_cache.specs.Entry.{entries_of}
use Rattle.object_cache.specs.Marks.{marks_of, no_marks}
use Rattle.object_model.specs.Rings.{moved_by}
use Rattle.object_model.specs.Plain.{Rings, ring_in, no_rings}
use Rattle.object_model.specs.declared.limits.TheConstants.{LATE_EDITS}
use Rattle.object_cache.specs.LateRanks.{rings_view}

-- the entries that it holds; some may have ended
abbrev pub held : Objects → List Entry
held objects = entries_of objects.entries.items

-- those that haven't ended at m
abbrev pub live_at : ℕ → Objects → List Entry
live_at m objects = filter (is_unexpired m) (held objects)

-- how many edits have touched each kind
abbrev pub counts : Objects → Counts
counts objects = marks_of objects.marks

-- the first ranks that the last edits touched in each kind
abbrev pub rings : Objects → Rings
rings objects = rings_view objects.rings

-- so many entries that haven't ended are kept at most
abbrev pub room_of : Objects → ℕ
room_of objects = objects.room

-- no entries, no edits, and room for so many
pub record IsEmpty (room : ℕ) (objects : Objects) : Type 0 where
  pub holds : held objects ≡ []
  pub counted : counts objects ≡ no_marks
  pub untouched : rings objects ≡ no_rings
  pub room_is : room_of objects ≡ room

-- what becomes of an outcome that is offered at the moment now, was decided at the mark since, and whose asker may forbid keeping
abbrev pub decision_on : Objects → Entry → ℕ → ℕ → Bool → Offered
decision_on objects e since now inhibit =
    by_rules (inhibit || inhibits e.outcome) (moved_by LATE_EDITS e.outcome (count_of e.kind (counts objects) - since) (ring_in e.kind (rings objects))) (not (is_unexpired now e))
    (list_any (is_for e.kind e.subject) (live_at now objects)) (nat_le (room_of objects) (length (live_at now objects)))
