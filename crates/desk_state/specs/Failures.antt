-- Edits that a keeper failed to keep, and its count of failures. This project's own.
use Rattle.std.specs.Prelude.{ℕ, ◌+◌, ◌≤◌, List, length, Bool, true, false, IsSome}
use Rattle.std.specs.List.{filter}
use Rattle.gk_io.specs.Faults.{CanRise}
use Rattle.policy_model.specs.History.{Event, tick, ask, offer, edit, edit_failed, edit_starved, look}
use Rattle.policy_keeper.specs.Told.{Told}

-- the event is an edit that the keeper failed to keep
abbrev pub is_failed : Event → Bool
is_failed (tick m) = false
is_failed (ask a) = false
is_failed (offer k) = false
is_failed (edit e) = false
is_failed (edit_failed e) = true
is_failed (edit_starved e) = false
is_failed look = false

-- how many of a history are such edits
abbrev pub failures : List Event → ℕ
failures h = length (filter is_failed h)

-- from one history to a longer one there are no more of them than the count rose by; a count at its last value bounds nothing
abbrev pub Shows : List Event → List Event → ℕ → ℕ → Type 0
Shows old new before counted = CanRise counted → before + failures new ≤ counted + failures old

-- what is told now was told before, and the count didn't fall
abbrev pub Keeps : Told → Told → ℕ → ℕ → Type 0
Keeps old new before counted = (IsSome new → IsSome old) × (before ≤ counted)

-- what a keeper tells as a run ends, and its count of faults as the run began and as it ends
pub record Kept : Type 0 where
  pub told : Told
  pub before : ℕ
  pub counted : ℕ

-- the same of a keeper that tells this
abbrev pub kept_by : Told → ℕ → ℕ → Kept
kept_by told before counted = record { told = told; before = before; counted = counted }
