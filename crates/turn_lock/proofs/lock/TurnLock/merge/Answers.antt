use Rattle.std.proofs.Common.{rules}
use Rattle.turn_lock.proofs.SplitsAndJoins.{joins}
use Rattle.turn_lock.proofs.lock.TurnLock.merge.Goals as goal

pub join_seat-requires : goal.join_seat-requires
join_seat-requires g c = (search rules, search rules, c.requires.other.2, search rules, joins g.T.Logged.stands _ _ _ _ _ c.requires.live.0 c.requires.other.0 c.requires.live.1 c.requires.other.1 c.requires.rests.0 c.requires.rests.1)
