use Rattle.gk_io.proofs.SentPieceByPiece.{sent_more, sent_still, sent_front}
use Rattle.gk_io.proofs.std_sink.StdSinkSink.put.Goals as goal

pub loop-rest-preserved-in-Ok : goal.loop-rest-preserved-in-Ok
loop-rest-preserved-in-Ok g c = record {
  faults = c.loop-rest.invariant.faults;
  sent = sent_more _ _ _ _ c.loop-rest.rest.now c.in-Ok.count c.loop-rest.invariant.sent c.in-Ok.ensures.bytes;
}

pub returns-in-Ok-eq0-clause-passes : goal.returns-in-Ok-eq0-clause-passes
returns-in-Ok-eq0-clause-passes g c =
    rw c.fail.ensures.inner (sent_front _ _ _ _ (sent_more _ _ _ _ c.loop-rest.rest.now c.in-Ok-eq0.field-0 c.loop-rest.invariant.sent c.in-Ok-eq0.ensures.bytes))

pub returns-then-tries-eq0-clause-passes : goal.returns-then-tries-eq0-clause-passes
returns-then-tries-eq0-clause-passes g c =
    rw c.fail-then-tries-eq0.ensures.inner (sent_front _ _ _ _ (sent_still _ _ _ _ _ c.loop-rest.invariant.sent c.in-Err.ensures.bytes))
