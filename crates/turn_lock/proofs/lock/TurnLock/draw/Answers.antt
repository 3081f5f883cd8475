use Rattle.std.proofs.Common.{rules}
use Rattle.turn_lock.proofs.StepsKeepTheRule.{draws}
use Rattle.turn_lock.proofs.lock.TurnLock.draw.Goals as goal

pub compare_exchange-requires : goal.compare_exchange-requires
compare_exchange-requires g c = let r = c.requires.rests in
    (search rules, search rules, draws g.T.Logged.stands _ _ _ _ c.args.next c.requires.live.0 c.requires.live.1 r.0 r.1 r.2 c.requires.room)
