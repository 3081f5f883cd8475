-- The rule of the lock, which holds between any two steps: of the words `next` and `serving`, of the slot, and of the views of all seats. This project's own.
-- A view that a join has left behind is excepted.
use Rattle.std.specs.Prelude.{◌≡◌, ◌≢◌, ◌⊎◌, ℕ, suc, ◌<◌, ◌≤◌, true, false, List, [], ◌∷◌, length, Option, Some}
use mathlib.Core.List.{IsPrefix}
use mathlib.Core.Option.{some, none}
use lib.ListN.{get_elem?}
use Rattle.atomic_table.specs.Table.{State}
use Rattle.turn_lock.specs.declared.lock.TheConstants.{TICKETS}
use Rattle.turn_lock.specs.declared.logged.Turn.{Turn}
use Rattle.turn_lock.specs.declared.logged.Kept.{Kept}
use Rattle.turn_lock.specs.declared.logged.View.{View}
use Rattle.turn_lock.specs.Turns.{turns_of}
use Rattle.turn_lock.specs.Views.{blank, kept_at, number_at, Has, IsOf}

-- a seat has one ticket at most, which was drawn and is not yet ended, and is its own
abbrev pub TicketOk : ℕ → ℕ → (ℕ → ℕ) → ℕ → List ℕ → Type 0
TicketOk next serving owner by [] = Unit {0}
TicketOk next serving owner by (t ∷ []) = (serving ≤ t) × (t < next) × (owner t ≡ by)
TicketOk next serving owner by (t ∷ u ∷ ts) = ⊥

-- a list that a join has kept, of a seat that has seen `seen` of the history h
abbrev pub KeptOk : {E : Type 0} → List (Turn E) → List (Turn E) → Kept E → Type 0
KeptOk seen h x = IsPrefix x.seen seen × (turns_of x.number seen ≡ x.turns) × (turns_of x.number h ≡ x.turns)

module _ {O E : Type 0} where
  -- two seats have no number in common
  abbrev pub Apart : View O E → View O E → Type 0
  Apart v w = (n : ℕ) → Has v n → Has w n → ⊥

  -- one seat, at the place `by`, against the words and the history
  pub record Live (o : O) (next serving : ℕ) (h : List (Turn E)) (owner : ℕ → ℕ) (by : ℕ) (v : View O E) : Type 0 where
    pub origin : v.origin ≡ Some o
    -- it has seen the history up to some turn, as has every other seat
    pub seen : IsPrefix v.seen h
    pub own : turns_of v.number v.seen ≡ v.own
    pub all : turns_of v.number h ≡ v.own
    pub ticket : TicketOk next serving owner by v.tickets
    pub hold : v.holds ≡ true → (v.tickets ≡ serving ∷ []) × (v.seen ≡ h)
    pub step : 0 < v.step
    -- the numbers that are left have had no turn
    pub fresh : (a : ℕ) → turns_of (number_at v (suc a)) h ≡ []
    pub kept : (k : ℕ) (x : Kept E) → get_elem? v.kept k ≡ some x → KeptOk v.seen h x
    pub clear : (k : ℕ) (x : Kept E) → get_elem? v.kept k ≡ some x → (a b : ℕ) → kept_at x a ≢ number_at v b
    pub over : 0 < v.spent → TICKETS ≤ next

  -- no two of the seats that are not left behind have a number in common
  abbrev pub AllApart : List (View O E) → Type 0
  AllApart views = (i j : ℕ) (v w : View O E) → i ≢ j → get_elem? views i ≡ some v → get_elem? views j ≡ some w → v.gone ≡ false → w.gone ≡ false → Apart v w

  -- the seat at this place is not left behind, and f holds of it
  abbrev pub SomeAt : List (View O E) → ℕ → (View O E → Type 0) → Type 0
  SomeAt views by f = (v : View O E) × (get_elem? views by ≡ some v) × (v.gone ≡ false) × f v

  module _ {S : Type 0} (stands : S → O → List (Turn E) → Type 0) where
    -- nothing was done since the table was made with the value
    pub record Unborn (value : S) (s : State (Option S) (View O E)) : Type 0 where
      pub words : s.words ≡ 0 ∷ 0 ∷ []
      pub homes : s.homes ≡ some (Some value) ∷ []
      pub views : s.views ≡ blank ∷ []

    -- the value is in the slot and stands for the history, or it is in the hand of the seat whose turn it is
    abbrev pub Placed : O → List (Turn E) → State (Option S) (View O E) → Type 0
    Placed o h s = ((x : S) × (s.homes ≡ some (Some x) ∷ []) × stands x o h) ⊎ ((s.homes ≡ none ∷ []) × ((by : ℕ) × SomeAt s.views by (λ v. v.holds ≡ true)))

    -- some turns, or none, were taken since the first seat was told the origin
    pub record Born (s : State (Option S) (View O E)) : Type 0 where
      pub origin : O
      pub next : ℕ
      pub serving : ℕ
      pub history : List (Turn E)
      -- the place of the seat that drew a ticket
      pub owner : ℕ → ℕ
      pub words : s.words ≡ next ∷ serving ∷ []
      pub order : serving ≤ next
      pub low : next ≤ TICKETS
      pub served : length history ≡ serving
      pub each : (by : ℕ) (v : View O E) → get_elem? s.views by ≡ some v → v.gone ≡ false → Live origin next serving history owner by v
      pub apart : AllApart s.views
      -- each drawn ticket that is not yet ended is in one seat's list: its owner's
      pub drawn : (t : ℕ) → serving ≤ t → t < next → SomeAt s.views (owner t) (λ v. v.tickets ≡ t ∷ [])
      -- each turn is of a seat that was made
      pub made : (k : ℕ) (t : Turn E) → get_elem? history k ≡ some t → (by : ℕ) × SomeAt s.views by (IsOf t.by)
      -- some seat has seen the whole history
      pub latest : (by : ℕ) × SomeAt s.views by (λ v. v.seen ≡ history)
      pub slot : Placed origin history s

    -- the rule
    abbrev pub Ruled : S → State (Option S) (View O E) → Type 0
    Ruled value s = Unborn value s ⊎ Born s
