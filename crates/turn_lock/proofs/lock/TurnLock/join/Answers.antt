use Rattle.std.proofs.Common.{rules, ◌≡◌, subst}
use Rattle.turn_lock.specs.declared.seat.Seat.{Seat}
use Rattle.turn_lock.specs.Views.{both_of, Tallies}
use Rattle.turn_lock.specs.Seats.{Knows, known}
use Rattle.turn_lock.proofs.AfterACall.{join_numbers, join_seen, tallies_known}
use Rattle.turn_lock.proofs.lock.TurnLock.join.Goals as goal

pub returns-clause-seen : goal.returns-clause-seen
returns-clause-seen g c =
    let s : Seat g.row.T-Origin.Denot g.row.T-Event.Denot = record c.args.seat.now { badge = c.into_badge-2.result } in
    let e : Knows s (both_of (known c.args.seat.now) (known c.args.other)) = search rules in
    let m : c.merge.new.seat.me.0 ≡ both_of (known c.args.seat.now) (known c.args.other) = search rules in
    (join_seen s (known c.args.seat.now) (known c.args.other) e (subst Tallies m c.learn.ensures.tallies)).0

pub returns-clause-seen_there : goal.returns-clause-seen_there
returns-clause-seen_there g c =
    let s : Seat g.row.T-Origin.Denot g.row.T-Event.Denot = record c.args.seat.now { badge = c.into_badge-2.result } in
    let e : Knows s (both_of (known c.args.seat.now) (known c.args.other)) = search rules in
    let m : c.merge.new.seat.me.0 ≡ both_of (known c.args.seat.now) (known c.args.other) = search rules in
    (join_seen s (known c.args.seat.now) (known c.args.other) e (subst Tallies m c.learn.ensures.tallies)).1

pub returns-clause-tallies : goal.returns-clause-tallies
returns-clause-tallies g c =
    let s : Seat g.row.T-Origin.Denot g.row.T-Event.Denot = record c.args.seat.now { badge = c.into_badge-2.result } in
    let e : Knows s c.merge.new.seat.me.0 = search rules in
    tallies_known s c.merge.new.seat.me.0 e c.learn.ensures.tallies

pub returns-clause-numbers : goal.returns-clause-numbers
returns-clause-numbers g c =
    let s : Seat g.row.T-Origin.Denot g.row.T-Event.Denot = record c.args.seat.now { badge = c.into_badge-2.result } in
    let e : Knows s (both_of (known c.args.seat.now) (known c.args.other)) = search rules in
    join_numbers s (known c.args.seat.now) (known c.args.other) e
