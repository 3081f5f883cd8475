use Rattle.std.proofs.Common.{rules}
use Rattle.turn_lock.specs.declared.seat.Seat.{Seat}
use Rattle.turn_lock.specs.Views.{left_of, right_of}
use Rattle.turn_lock.specs.Seats.{Knows, known}
use Rattle.turn_lock.proofs.AfterACall.{split_numbers, tallies_known}
use Rattle.turn_lock.proofs.lock.TurnLock.split.Goals as goal

pub returns-clause-tallies : goal.returns-clause-tallies
returns-clause-tallies g c =
    let s : Seat g.row.T-Origin.Denot g.row.T-Event.Denot = record c.args.seat.now { badge = c.into_badge.result } in
    let e : Knows s c.halve-other.new.seat.me.0 = search rules in
    let f : Knows c.of.result c.halve-other.result.me.0 = search rules in
    (tallies_known s c.halve-other.new.seat.me.0 e c.learn.ensures.tallies, tallies_known c.of.result c.halve-other.result.me.0 f c.learn-2.ensures.tallies)

pub returns-clause-numbers : goal.returns-clause-numbers
returns-clause-numbers g c =
    let s : Seat g.row.T-Origin.Denot g.row.T-Event.Denot = record c.args.seat.now { badge = c.into_badge.result } in
    let e : Knows s (left_of (known c.args.seat.now)) = search rules in
    let f : Knows c.of.result (right_of (known c.args.seat.now)) = search rules in
    split_numbers s c.of.result (known c.args.seat.now) e f
