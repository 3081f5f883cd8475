use Rattle.std.proofs.Common.{◌≡◌, ◌-◌, ◌<◌, length}
use Rattle.http_model.specs.declared.limits.TheConstants.{FIELD_LIMIT, REPLY_LIMIT}
use Rattle.http_reader.proofs.PlainStream.{IsSoFar}
use Rattle.http_reader.proofs.plain.end_of_stream.Given as goal

abbrev pub invariant-loop-end : goal.invariant-loop-end
invariant-loop-end l = record {
  few : l.count < REPLY_LIMIT;
  room : length l.fields ≡ FIELD_LIMIT;
  so_far : IsSoFar l.bytes l.rest l.count;
}

abbrev pub decreases-loop-end : goal.decreases-loop-end
decreases-loop-end l = REPLY_LIMIT - l.count
