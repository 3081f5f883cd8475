use Rattle.std.proofs.Common.{◌≡◌, ◌+◌, length}
use Rattle.gk_io.specs.Told.{Sent}
use Rattle.gk_io.proofs.std_sink.StdSinkSink.put.Given as goal

abbrev pub invariant-loop-rest : goal.invariant-loop-rest
invariant-loop-rest g l = record { faults : l.self.faults ≡ l.fn.self.faults; sent : Sent (g.W.Write.contents l.fn.self.inner) (g.W.Write.contents l.self.inner) l.bytes l.rest }

abbrev pub decreases-loop-rest : goal.decreases-loop-rest
decreases-loop-rest g l = length l.rest + l.tries
