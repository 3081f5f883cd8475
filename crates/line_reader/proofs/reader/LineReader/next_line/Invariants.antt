use Rattle.std.proofs.Common.{◌≡◌, is_some, ◌-◌}
use Rattle.line_reader.specs.Reading.{held, stream, IsPart}
use Rattle.line_reader.proofs.reader.LineReader.next_line.Given as goal
use Rattle.line_reader.specs.declared.limits.TheConstants.{SESSION_BYTES}

abbrev pub invariant-loop-self : goal.invariant-loop-self
invariant-loop-self g l = record {
  part : IsPart (stream l.fn.self (g.S.Source.left l.fn.source)) (stream l.self (g.S.Source.left l.source)) (held l.self);
  telling : is_some (g.S.Source.left l.source) ≡ is_some (g.S.Source.left l.fn.source);
  steady : g.S.Source.faults l.source ≡ g.S.Source.faults l.fn.source;
}

abbrev pub decreases-loop-self : goal.decreases-loop-self
decreases-loop-self g l = SESSION_BYTES - l.self.bytes
