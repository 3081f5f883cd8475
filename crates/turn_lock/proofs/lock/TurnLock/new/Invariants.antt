use Rattle.std.specs.Prelude.{Some}
use Rattle.turn_lock.proofs.lock.TurnLock.new.Given as goal

abbrev pub ghosts-begin : goal.ghosts-begin
ghosts-begin g a = record { origin = Some g.origin }
