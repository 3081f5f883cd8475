use Rattle.std.proofs.Common.{◌≡◌, ◌-◌, length, is_some}
use Rattle.http_model.specs.declared.limits.TheConstants.{HEAD_LIMIT, FIELD_LIMIT}
use Rattle.http_reader.specs.Pending.{pending}
use Rattle.http_reader.proofs.HeadsRead.{IsReadSoFar}
use Rattle.http_reader.proofs.reading.read_head.Given as goal

abbrev pub invariant-loop-spans : goal.invariant-loop-spans
invariant-loop-spans g l = record {
  room : length l.fields ≡ FIELD_LIMIT;
  so_far : IsReadSoFar (pending l.fn.bytes) (pending l.bytes) (g.S.Source.left l.fn.source) (g.S.Source.left l.source);
  telling : is_some (g.S.Source.left l.source) ≡ is_some (g.S.Source.left l.fn.source);
  steady : g.S.Source.faults l.source ≡ g.S.Source.faults l.fn.source;
}

abbrev pub decreases-loop-spans : goal.decreases-loop-spans
decreases-loop-spans g l = HEAD_LIMIT - length (pending l.bytes)
