use Rattle.std.proofs.Common.{rules}
use Rattle.turn_lock.proofs.StepsKeepTheRule.{sees}
use Rattle.turn_lock.proofs.lock.TurnLock.see.Goals as goal

pub load-requires : goal.load-requires
load-requires g c = let r = c.requires.waits in
    (search rules, search rules, sees g.T.Logged.stands _ _ _ _ c.args.ticket c.requires.live.0 c.requires.live.1 r.0.0 r.0.1 r.0.2 r.1)
