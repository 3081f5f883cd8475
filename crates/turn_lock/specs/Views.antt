-- What a seat knows, and how a turn, a split and a join change it. This project's own.
use Rattle.std.specs.Prelude.{◌≡◌, ◌⊎◌, ℕ, ◌+◌, ◌*◌, ◌<◌, ◌≤◌, length, true, false, List, [], ◌∷◌, ◌++◌, Some, None}
use mathlib.Core.List.{IsPrefix}
use mathlib.Core.Option.{some}
use lib.ListN.{get_elem?}
use Rattle.turn_lock.specs.declared.lock.TheConstants.{TICKETS}
use Rattle.turn_lock.specs.declared.logged.Turn.{Turn}
use Rattle.turn_lock.specs.declared.logged.Kept.{Kept}
use Rattle.turn_lock.specs.declared.logged.View.{View}
use Rattle.turn_lock.specs.Turns.{turns_of, longer}

-- the numbers of a seat that was joined to another, and of those that could be split from it
abbrev pub kept_at : {E : Type 0} → Kept E → ℕ → ℕ
kept_at x a = x.number + a * x.step

module _ {O E : Type 0} where
  -- the first seat, before it was told the origin
  abbrev pub blank : View O E
  blank = record { origin = None; gone = false; number = 0; step = 1; tickets = []; holds = false; seen = []; own = []; kept = []; spent = 0 }

  -- the first seat
  abbrev pub newborn : O → View O E
  newborn o = record { origin = Some o; gone = false; number = 0; step = 1; tickets = []; holds = false; seen = []; own = []; kept = []; spent = 0 }

  -- a seat that was joined to another
  abbrev pub left_behind : View O E
  left_behind = record { origin = None; gone = true; number = 0; step = 1; tickets = []; holds = false; seen = []; own = []; kept = []; spent = 0 }

  -- the seat has no ticket, and no turn
  abbrev pub Rests : View O E → Type 0
  Rests v = (v.gone ≡ false) × (v.tickets ≡ []) × (v.holds ≡ false)

  -- the seat has just this ticket, and not yet its turn
  abbrev pub Waits : View O E → ℕ → Type 0
  Waits v ticket = (v.gone ≡ false) × (v.holds ≡ false) × (v.tickets ≡ ticket ∷ [])

  -- the seat's number, and those left to seats that are split from it
  abbrev pub number_at : View O E → ℕ → ℕ
  number_at v a = v.number + a * v.step

  -- the number is the seat's or left to it, or was that of a seat joined to it or left to that one
  abbrev pub Has : View O E → ℕ → Type 0
  Has v n = ((a : ℕ) × (n ≡ number_at v a)) ⊎ ((k : ℕ) × (x : Kept E) × (get_elem? v.kept k ≡ some x) × ((a : ℕ) × (n ≡ kept_at x a)))

  -- no other seat is left: each that was split off was joined again
  abbrev pub HasAll : View O E → Type 0
  HasAll v = (n : ℕ) → Has v n

  -- the number is that of the seat, or of one that was joined to it
  abbrev pub IsOf : ℕ → View O E → Type 0
  IsOf n v = (v.number ≡ n) ⊎ ((k : ℕ) × (x : Kept E) × (get_elem? v.kept k ≡ some x) × (x.number ≡ n))

  -- the own list is the turns of the seat's number in what it has seen, and each kept list is that of its number; and the seat has seen what each seat joined to it had seen
  pub record Tallies (v : View O E) : Type 0 where
    pub own : turns_of v.number v.seen ≡ v.own
    pub kept : (k : ℕ) (x : Kept E) → get_elem? v.kept k ≡ some x → IsPrefix x.seen v.seen × (turns_of x.number v.seen ≡ x.turns)

  -- the same in a history that goes on from what the seat has seen. Where no other seat is left, each turn is the seat's or that of one joined to it
  pub record Accounts (v : View O E) (h : List (Turn E)) : Type 0 where
    pub seen : IsPrefix v.seen h
    pub own : turns_of v.number h ≡ v.own
    pub kept : (k : ℕ) (x : Kept E) → get_elem? v.kept k ≡ some x → turns_of x.number h ≡ x.turns
    pub all : HasAll v → (k : ℕ) (t : Turn E) → get_elem? h k ≡ some t → IsOf t.by v
    -- there are so many tickets, and one that was refused came after them
    pub within : length h ≤ TICKETS
    pub over : 0 < v.spent → TICKETS ≤ length h

  -- the seat's turn with these events
  abbrev pub turn_of : View O E → List E → Turn E
  turn_of v events = record { by = v.number; events = events }

  -- the view after a turn with these events, which began with the history that the view has seen
  abbrev pub after : View O E → List E → View O E
  after v events = record v { tickets = []; holds = false; seen = v.seen ++ turn_of v events ∷ []; own = v.own ++ turn_of v events ∷ [] }

  -- the view of a seat that found no ticket left
  abbrev pub refused : View O E → View O E
  refused v = record v { spent = v.spent + 1 }

  -- the two seats of a split: every second number is left to each
  abbrev pub left_of : View O E → View O E
  left_of v = record v { step = 2 * v.step }

  -- the other seat has no turns, and nothing that was joined to it
  abbrev pub right_of : View O E → View O E
  right_of v = record v { number = v.number + v.step; step = 2 * v.step; tickets = []; holds = false; own = []; kept = []; spent = 0 }

  -- what a join keeps of the other seat
  abbrev pub kept_of : View O E → Kept E
  kept_of w = record { number = w.number; step = w.step; turns = w.own; seen = w.seen }

  -- the seat of a join: the longer of what both have seen, the other's list beside its own, and the refusals of both
  abbrev pub both_of : View O E → View O E → View O E
  both_of v w = record v { seen = longer v.seen w.seen; kept = v.kept ++ kept_of w ∷ w.kept; spent = v.spent + w.spent }
