use Rattle.std.proofs.Common.{sym, subst, ◌+◌, ◌∙◌}
use Rattle.http_reader.proofs.PlainStream.{IsSoFar, ends, closing, goes_on, not_last}
use Rattle.http_reader.proofs.plain.end_of_stream.Goals as goal

pub returns-in-End : goal.returns-in-End
returns-in-End c = ends c.requests_add_up.ensures _ c.loop-end.rest.now c.loop-end.count c.loop-end.invariant.so_far _ c.in-End.ensures.first

pub returns-then-last : goal.returns-then-last
returns-then-last c =
    let first = c.in-Request.ensures.first in
    closing c.requests_add_up.ensures _ c.loop-end.rest.now c.loop-end.count c.loop-end.invariant.so_far first.0 _ first.1 (sym c.if-last.true ∙ first.3)

pub loop-end-preserved : goal.loop-end-preserved
loop-end-preserved c =
    let first = c.in-Request.ensures.first in record {
      few = not_last c.loop-end.count first.0.head (sym c.if-last.false ∙ first.3) c.loop-end.invariant.few;
      room = c.first_of.ensures.room;
      so_far = subst (λ b. IsSoFar c.args.bytes.now b (c.loop-end.count + 1)) (sym c.split_at.ensures.back)
          (goes_on c.requests_add_up.ensures _ c.loop-end.rest.now c.loop-end.count c.loop-end.invariant.so_far first.0 _ first.1 (sym c.if-last.false ∙ first.3));
    }
