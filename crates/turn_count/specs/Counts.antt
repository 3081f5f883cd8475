-- A counter that stands for the number of all events, from where it began. This project's own.
use Rattle.std.specs.Prelude.{◌≡◌, ℕ, zero, suc, ◌+◌, ◌<◌, ◌%◌, ◌^◌, Bool, true, false, List, [], ◌∷◌, ◌++◌, length, sum_by}
use Rattle.turn_lock.specs.declared.logged.Turn.{Turn}
use Rattle.turn_lock.specs.declared.logged.View.{View}
use Rattle.turn_count.specs.declared.counter.Counter.{Counter}
use Rattle.turn_lock.specs.Views.{turn_of}
use Rattle.turn_lock.specs.Seats.{SameSeat}

-- the events of all turns
abbrev pub event_count : List (Turn ℕ) → ℕ
event_count h = sum_by (λ t. length t.events) h

-- the count stands for all events from where it began, modulo 2^64, as it wraps
abbrev pub Counted : Counter → ℕ → List (Turn ℕ) → Type 0
Counted c o h = c.count ≡ (o + event_count h) % 2 ^ 64

-- so many turns of the seat, of one event each: 0, then 1, and so on
abbrev pub counting : View ℕ ℕ → ℕ → List (Turn ℕ)
counting v zero = []
counting v (suc n) = counting v n ++ turn_of v (n ∷ []) ∷ []

-- a seat that knew v has taken just these turns since
abbrev pub HasTaken : View ℕ ℕ → View ℕ ℕ → ℕ → Type 0
HasTaken v w n = w.own ≡ v.own ++ counting v n

-- it took all these turns, or it took fewer and then found no ticket left
abbrev pub HasEnded : View ℕ ℕ → View ℕ ℕ → ℕ → Bool → Type 0
HasEnded v w times true = HasTaken v w times × (w.spent ≡ v.spent)
HasEnded v w times false = (done : ℕ) × (done < times) × HasTaken v w done × (w.spent ≡ v.spent + 1)

-- a seat was to count so many events, and has ended with this answer
abbrev pub EndsCounting : View ℕ ℕ → View ℕ ℕ → ℕ → Bool → Type 0
EndsCounting v w times all = SameSeat v w × HasEnded v w times all

-- how many turns the seat took, and those that were joined to it
abbrev pub turns_in : View ℕ ℕ → ℕ
turns_in v = length v.own + sum_by (λ x. length x.turns) v.kept
