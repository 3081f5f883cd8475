-- The entries that a desk keeps after a history. This project's own.
use Rattle.std.specs.Prelude.{ℕ, max, List, [], ◌∷◌, ◌++◌, take, Option, Some, None, slice_get}
use Rattle.std.specs.List.{filter}
use Rattle.req_tree.specs.Subject.{Subject}
use Rattle.policy_model.specs.Edits.{does}
use Rattle.policy_model.specs.Outcomes.{Ask, outcome}
use Rattle.policy_model.specs.History.{Event, tick, ask, offer, edit, edit_failed, edit_starved, look, Entry, Opening, tables_of, now_of}
use Rattle.object_model.specs.declared.limits.TheConstants.{MOST_ENTRIES, LATE_EDITS}
use Rattle.object_model.specs.Objects.{Offered, is_unexpired, outlasts, decision, with_offer}
use Rattle.object_model.specs.Past.{touched_since}

-- what an assessment that begins after the history h says
abbrev pub entry_of : Opening → List Event → Ask → Subject → Entry
entry_of o h a s = record { kind = a.kind; subject = s; outcome = outcome (tables_of o h).rows a.kind s o.facts (now_of o h) }

-- whether the outcome of the ask at place k is kept when it is offered after h
abbrev pub decision_of : Opening → List Event → List Entry → ℕ → Ask → Subject → Offered
decision_of o h objects k a s = decision LATE_EDITS MOST_ENTRIES (now_of o h) a.keep (touched_since o h k) objects (entry_of o (take k h) a s)

-- code without a signature is never kept
abbrev pub offer_of : Opening → List Event → List Entry → ℕ → Ask → Option Subject → List Entry
offer_of o h objects k a None = objects
offer_of o h objects k a (Some s) = with_offer (decision_of o h objects k a s) (entry_of o (take k h) a s) objects

-- the event at place k is offered: it has to be an ask
abbrev pub offer_at : Opening → List Event → List Entry → ℕ → Option Event → List Entry
offer_at o h objects k (Some (ask a)) = offer_of o h objects k a a.subject
offer_at o h objects k other = objects

-- the entries after one more event: a tick drops what ends, an edit what rests on a touched row, an offer may add one
abbrev pub objects_step : Opening → List Event → Event → List Entry → List Entry
objects_step o h (tick m) objects = filter (is_unexpired (max (now_of o h) m)) objects
objects_step o h (edit e) objects = filter (outlasts (does (tables_of o h) e).touched) objects
objects_step o h (offer k) objects = offer_at o h objects k (slice_get h k)
objects_step o h (ask a) objects = objects
objects_step o h (edit_failed e) objects = objects
objects_step o h (edit_starved e) objects = objects
objects_step o h look objects = objects

-- the entries after further events
abbrev pub objects_after : Opening → List Event → List Event → List Entry → List Entry
objects_after o h [] objects = objects
objects_after o h (e ∷ es) objects = objects_after o (h ++ e ∷ []) es (objects_step o h e objects)

-- the entries that are kept after a history
abbrev pub objects_of : Opening → List Event → List Entry
objects_of o h = objects_after o [] h o.entries
