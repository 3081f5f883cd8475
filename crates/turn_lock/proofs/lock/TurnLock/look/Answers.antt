use Rattle.std.proofs.Common.{rules}
use Rattle.turn_lock.proofs.StepsKeepTheRule.{looks}
use Rattle.turn_lock.proofs.lock.TurnLock.look.Goals as goal

pub load-requires : goal.load-requires
load-requires g c = (search rules, search rules, looks g.T.Logged.stands _ _ _ _ c.requires.live.0 c.requires.live.1 c.requires.live.2)
