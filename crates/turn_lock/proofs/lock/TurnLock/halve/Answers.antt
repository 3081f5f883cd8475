use Rattle.std.proofs.Common.{rules}
use Rattle.turn_lock.proofs.SplitsAndJoins.{splits}
use Rattle.turn_lock.proofs.lock.TurnLock.halve.Goals as goal

pub split_seat-requires : goal.split_seat-requires
split_seat-requires g c = (search rules, search rules, splits g.T.Logged.stands _ _ _ c.requires.live.0 c.requires.live.1 c.requires.rests)
