-- A seat that was split and joined again. This project's own.
use Rattle.turn_lock.specs.declared.logged.View.{View}
use Rattle.turn_lock.specs.declared.seat.Seat.{Seat}
use Rattle.turn_lock.specs.Views.{left_of, right_of, both_of}
use Rattle.turn_lock.specs.Seats.{Knows}

-- the seat, which knew v, was split and joined again: it took no turn, and has its numbers
abbrev pub WentAround : {O E : Type 0} → View O E → Seat O E → Type 0
WentAround v s = Knows s (both_of (left_of v) (right_of v))
