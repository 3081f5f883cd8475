-- What each kind of step tells the seat that makes it: of its view and slots before, of the number found, and of its view and slots after. This project's own.
use Rattle.std.specs.Prelude.{◌≡◌, ◌≢◌, ℕ, ◌<◌, ◌≤◌, true, false, List, [], ◌∷◌, length, Option, Some}
use mathlib.Core.List.{IsPrefix}
use Rattle.atomic_table.specs.Table.{Step, Me}
use Rattle.turn_lock.specs.declared.lock.TheConstants.{TICKETS}
use Rattle.turn_lock.specs.declared.logged.Turn.{Turn}
use Rattle.turn_lock.specs.declared.logged.View.{View}
use Rattle.turn_lock.specs.Turns.{turns_of}
use Rattle.turn_lock.specs.Views.{Tallies, after, refused}

module _ {S O E : Type 0} where
  -- the first step of the first seat: it has the origin
  abbrev pub Began : Option O → Step (Option S) → Me (Option S) (View O E) → ℕ → Me (Option S) (View O E) → Type 0
  Began o s v found w = w ≡ (record { origin = o; gone = false; number = 0; step = 1; tickets = []; holds = false; seen = []; own = []; kept = []; spent = 0 }, [])

  -- a load that changes nothing
  abbrev pub Learned : Step (Option S) → Me (Option S) (View O E) → ℕ → Me (Option S) (View O E) → Type 0
  Learned s v found w = (w ≡ v) × Tallies v.0

  -- a load of `next`: where no ticket is left, the seat notes that it found so
  abbrev pub Looked : Step (Option S) → Me (Option S) (View O E) → ℕ → Me (Option S) (View O E) → Type 0
  Looked s v found w = (TICKETS ≤ found → w ≡ (refused v.0, v.1)) × (found < TICKETS → w ≡ v)

  -- a draw: the ticket, where `next` was as expected
  abbrev pub Drew : Step (Option S) → Me (Option S) (View O E) → ℕ → Me (Option S) (View O E) → Type 0
  Drew s v found w = (found ≡ s.first → w ≡ (record v.0 { tickets = found ∷ [] }, v.1)) × (found ≢ s.first → w ≡ v)

  -- the seat takes the value out of the slot, and has now seen the history that it stands for
  abbrev pub Takes : (S → O → List (Turn E) → Type 0) → Me (Option S) (View O E) → ℕ → Me (Option S) (View O E) → Type 0
  Takes stands v found w = (x : S) × (o : O) × (v.0.origin ≡ Some o) × (w ≡ (record v.0 { holds = true; seen = w.0.seen }, (0, Some x) ∷ [])) × IsPrefix v.0.seen w.0.seen × (length w.0.seen ≡ found)
      × (turns_of v.0.number w.0.seen ≡ v.0.own) × stands x o w.0.seen

  -- a load of `serving` by a seat with a ticket: it takes the value where the ticket is the one served
  abbrev pub Saw : (S → O → List (Turn E) → Type 0) → Step (Option S) → Me (Option S) (View O E) → ℕ → Me (Option S) (View O E) → Type 0
  Saw stands s v found w = (t : ℕ) → v.0.tickets ≡ t ∷ [] → (found ≡ t → Takes stands v found w) × (found ≢ t → w ≡ v)

  -- an add to `serving`: the turn is ended with these events
  abbrev pub Ended : List E → Step (Option S) → Me (Option S) (View O E) → ℕ → Me (Option S) (View O E) → Type 0
  Ended events s v found w = (w ≡ (after v.0 events, [])) × Tallies w.0
