use Rattle.std.proofs.Common.{rules, refl}
use Rattle.turn_lock.specs.Views.{newborn}
use Rattle.turn_lock.specs.Seats.{Knows}
use Rattle.turn_lock.proofs.AfterACall.{alone_known, ready_at}
use Rattle.turn_lock.proofs.lock.TurnLock.new.Goals as goal

pub returns-clause-ready : goal.returns-clause-ready
returns-clause-ready g c =
    let e : Knows c.of.result (newborn g.origin) = search rules in
    ready_at c.of.result (newborn g.origin) c.in_ok-table.table.shared.table_id (search rules) e (refl, refl, refl) (g.origin, refl)

pub returns-clause-alone : goal.returns-clause-alone
returns-clause-alone g c =
    let e : Knows c.of.result (newborn g.origin) = search rules in
    alone_known c.of.result g.origin e
