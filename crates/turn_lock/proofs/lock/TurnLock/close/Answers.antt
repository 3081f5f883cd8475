use Rattle.turn_lock.proofs.AtTheEnd.{stopped_whole, stopped_stuck, stopped_alone}
use Rattle.turn_lock.proofs.lock.TurnLock.close.Goals as goal

pub returns-clause-whole : goal.returns-clause-whole
returns-clause-whole g c x is = let t = (c.ends.ensures.whole x).0 is in stopped_whole g.T.Logged.stands _ _ _ c.shut.ensures x t.0 t.1

pub returns-clause-stuck : goal.returns-clause-stuck
returns-clause-stuck g c n s is = let t = (c.ends.ensures.stuck n s).0 is in stopped_stuck g.T.Logged.stands _ _ _ c.shut.ensures n s t.0 t.1

pub returns-clause-alone : goal.returns-clause-alone
returns-clause-alone g c has = let t = stopped_alone g.T.Logged.stands _ _ _ c.shut.ensures has in (t.1.0, (c.ends.ensures.whole t.1.0).1 (t.0, t.1.1))
