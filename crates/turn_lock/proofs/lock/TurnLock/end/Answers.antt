use Rattle.std.proofs.Common.{rules}
use Rattle.turn_lock.proofs.StepsKeepTheRule.{ends}
use Rattle.turn_lock.proofs.lock.TurnLock.end.Goals as goal

pub fetch_add-requires : goal.fetch_add-requires
fetch_add-requires g c = let v = c.requires.value in let r = c.requires.holds in
    (search rules, search rules, ends g.T.Logged.stands _ _ _ _ g.N.Names.events v.0 v.2.0 v.2.1 r.0 r.1 v.1 v.2.2)
