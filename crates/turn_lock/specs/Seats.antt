-- What callers know of a seat, and of one turn. This project's own.
use Rattle.std.specs.Prelude.{◌≡◌, ℕ, ◌≤◌, true, false, List, [], ◌∷◌, ◌++◌, length, Option, Some, None}
use mathlib.Core.List.{IsPrefix}
use Rattle.atomic_table.specs.Seated.{TableId}
use Rattle.atomic_table.specs.declared.shared.Seat as place
use Rattle.turn_lock.specs.declared.lock.TheConstants.{TICKETS}
use Rattle.turn_lock.specs.declared.lock.TurnLock.{TurnLock}
use Rattle.turn_lock.specs.declared.logged.Turn.{Turn}
use Rattle.turn_lock.specs.declared.logged.View.{View}
use Rattle.turn_lock.specs.declared.seat.Seat.{Seat}
use Rattle.turn_lock.specs.Turns.{turns_of}
use Rattle.turn_lock.specs.Views.{blank, refused, turn_of, Accounts, HasAll, Rests, Tallies}

-- the name of a lock
abbrev pub id_of : {R O E : Type 0} → TurnLock R O E → TableId
id_of lock = lock.table.shared.table_id

module _ {O E : Type 0} where
  -- the first of the views that a seat has: there is one, but for a seat in its turn
  abbrev pub first_of_views : List (View O E) → View O E
  first_of_views [] = blank
  first_of_views (v ∷ vs) = v

  -- what the seat knows
  abbrev pub known : Seat O E → View O E
  known s = first_of_views s.badge.views

  -- the seat knows just this
  abbrev pub Knows : Seat O E → View O E → Type 0
  Knows s v = s.badge.views ≡ v ∷ []

  -- the seat is one of this lock, has no ticket and no turn
  abbrev pub IsReady : {R : Type 0} → Seat O E → TurnLock R O E → Type 0
  IsReady s lock = (s.badge.table_id ≡ id_of lock) × Knows s (known s) × Rests (known s) × ((o : O) × ((known s).origin ≡ Some o))

  -- the seat, which knew v, found no ticket left, and is otherwise as it was
  abbrev pub IsRefused : {R : Type 0} → View O E → Seat O E → TurnLock R O E → Type 0
  IsRefused v s lock = Knows s (refused v) × IsReady s lock × Tallies (known s)

  -- the seat is lent for the time of a turn, and has no view
  abbrev pub IsLent : Seat O E → Type 0
  IsLent s = s.badge.views ≡ []

  -- a turn that was begun: the value is out of the slot, and in hand
  abbrev pub IsOut : {S : Type 0} → place.Seat (Option S) (View O E) → TurnLock S O E → Type 0
  IsOut s lock = (s.table_id ≡ id_of lock) × (s.me.1 ≡ (0, None) ∷ []) × (s.me.0.gone ≡ false) × (s.me.0.holds ≡ true)

  -- the seat that knew v has its turn: it has seen what it had seen, and on to the history that the value x stands for. Nothing else has changed
  abbrev pub HasBegun : {S : Type 0} → (S → O → List (Turn E) → Type 0) → View O E → View O E → S → Type 0
  HasBegun stands v w x = (t : ℕ) × (o : O) × (v.origin ≡ Some o) × (w ≡ record v { tickets = t ∷ []; holds = true; seen = w.seen }) × IsPrefix v.seen w.seen × (turns_of v.number w.seen ≡ v.own) × stands x o w.seen

  -- the turn may end with these events: with it, the value x stands for the history
  abbrev pub MayEnd : {S : Type 0} → (S → O → List (Turn E) → Type 0) → View O E → List E → S → Type 0
  MayEnd stands v events x = (o : O) × (v.origin ≡ Some o) × stands x o (v.seen ++ turn_of v events ∷ [])

  -- the value x stands for a history that goes on from what the seat has seen
  abbrev pub IsWhole : {S : Type 0} → (S → O → List (Turn E) → Type 0) → View O E → S → Type 0
  IsWhole stands v x = (o : O) × (h : List (Turn E)) × (v.origin ≡ Some o) × stands x o h × Accounts v h

  -- one turn with these events, from v to w, where `past` is the history that it began with: that history goes on from what was seen, what is then seen is it and the turn, the own list has the turn more, and nothing else has changed
  pub record Turned (v w : View O E) (events : List E) (past : List (Turn E)) : Type 0 where
    pub on : IsPrefix v.seen past
    pub seen : w.seen ≡ past ++ turn_of v events ∷ []
    pub own : w.own ≡ v.own ++ turn_of v events ∷ []
    pub rest : w ≡ record v { seen = w.seen; own = w.own }

  -- one turn with these events, and what is said of the origin and of the turns before this one
  pub record Acted (v w : View O E) (events : List E) (says : O → List (Turn E) → Type 0) : Type 0 where
    pub origin : O
    pub past : List (Turn E)
    pub had : v.origin ≡ Some origin
    pub turned : Turned v w events past
    pub said : says origin past

  module _ {S : Type 0} (stands : S → O → List (Turn E) → Type 0) where
    -- the two words and the slot of a lock that was closed by a seat which knew v: `serving` is at most `next`, and where they are the same the value is in the slot. They are the same where no other seat is left
    pub record IsStopped (v : View O E) (at : List ℕ) (slot : List (Option S)) : Type 0 where
      pub next : ℕ
      pub serving : ℕ
      pub words : at ≡ next ∷ serving ∷ []
      pub seen : length v.seen ≤ serving
      pub order : serving ≤ next
      pub low : next ≤ TICKETS
      pub alone : HasAll v → next ≡ serving
      pub value : next ≡ serving → (x : S) × (slot ≡ Some x ∷ []) × IsWhole stands v x

  -- the same seat: of the same origin, with the same numbers
  abbrev pub SameSeat : View O E → View O E → Type 0
  SameSeat v w = (w.origin ≡ v.origin) × (w.number ≡ v.number) × (w.step ≡ v.step) × (w.kept ≡ v.kept)
