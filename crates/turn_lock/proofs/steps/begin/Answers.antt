use Rattle.std.proofs.Common.{rules}
use Rattle.turn_lock.proofs.StepsKeepTheRule.{births}
use Rattle.turn_lock.proofs.steps.begin.Goals as goal

pub load-requires : goal.load-requires
load-requires g c = (search rules, search rules, births g.T.Logged.stands _ _ _ _ g.N.Origins.origin c.requires.first c.requires.stands)
