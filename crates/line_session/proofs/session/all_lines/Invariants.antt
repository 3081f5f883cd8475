use Rattle.std.proofs.Common.{◌-◌}
use Rattle.gk_io.specs.Devices.{PassesSink, PassesSource}
use Rattle.line_reader.specs.Reading.{stream}
use Rattle.line_reader.specs.declared.limits.TheConstants.{SESSION_LINES}
use Rattle.line_session.specs.Going.{IsGoing}
use Rattle.line_session.proofs.session.all_lines.Given as goal

abbrev pub invariant-loop-ended : goal.invariant-loop-ended
invariant-loop-ended g l = record {
  ready : g.R.Responder.ready l.responder;
  going : IsGoing (g.R.Responder.answered l.fn.responder l.responder) (g.S.Source.left l.fn.input) (stream l.reader (g.S.Source.left l.input)) (g.W.Sink.written l.fn.output) (g.W.Sink.written l.output);
  input : PassesSource ⊥ ⊥ (g.S.Source.left l.fn.input) (g.S.Source.left l.input) (g.S.Source.faults l.fn.input) (g.S.Source.faults l.input);
  output : PassesSink ⊥ ⊥ (g.W.Sink.written l.fn.output) (g.W.Sink.written l.output) (g.W.Sink.flushed l.fn.output) (g.W.Sink.flushed l.output) (g.W.Sink.faults l.fn.output) (g.W.Sink.faults l.output);
}

abbrev pub decreases-loop-ended : goal.decreases-loop-ended
decreases-loop-ended g l = SESSION_LINES - l.reader.lines
