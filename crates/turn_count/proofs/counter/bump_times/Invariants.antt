use Rattle.std.proofs.Common.{◌≡◌}
use Rattle.turn_lock.specs.Seats.{IsReady, SameSeat, known}
use Rattle.turn_count.specs.Counts.{HasTaken}
use Rattle.turn_count.proofs.counter.bump_times.Given as goal

abbrev pub invariant-loop-event : goal.invariant-loop-event
invariant-loop-event g l = IsReady l.seat l.fn.lock × SameSeat (known l.fn.seat) (known l.seat)
    × HasTaken (known l.fn.seat) (known l.seat) l.event × ((known l.seat).spent ≡ (known l.fn.seat).spent)
