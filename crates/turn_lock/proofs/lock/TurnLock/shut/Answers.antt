use Rattle.std.proofs.Common.{rules}
use Rattle.turn_lock.proofs.AtTheEnd.{closes_known}
use Rattle.turn_lock.proofs.lock.TurnLock.shut.Goals as goal

pub returns : goal.returns
returns g c = closes_known g.T.Logged.stands _ _ c.args.seat c.into_seat.result.me.0 _ _ (search rules) c.requires.ready.3 c.requires.ready.2 c.close_with-table.ensures.values.2
