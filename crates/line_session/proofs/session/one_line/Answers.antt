use Rattle.std.proofs.Common.{◌<◌, None, Some, refl, arith}
use Rattle.line_session.proofs.AfterAReply.{anyway, last_ends, still_read, sink_after}
use Rattle.line_session.proofs.Devices.{sink_unasked, source_kept, source_failed}
use Rattle.line_session.specs.declared.ended.Ended.TheVariants.{Fine}
use Rattle.line_session.proofs.SessionEnds.{line_turn, last_turn, at_end, at_limit, at_fault}
use Rattle.line_session.proofs.session.one_line.Goals as goal

pub returns-in-Ok-Line-clause-goes : goal.returns-in-Ok-Line-clause-goes
returns-in-Ok-Line-clause-goes g c =
    let line = rw c.in-Ok-Line.field-0-is at c.in-Ok-Line.ensures.read in
    λ begin start first going. rw c.end_after.ensures (line_turn c.lines_add_up.ensures g.R.Responder.takes_memory _ _ start _ first _ _ _ c.next_line.new.self _ going line c.next_line.ensures.lines c.next_line.ensures.bytes
    c.reply_to.result (c.reply_to.ensures.replied begin line.bytes going.lines going.replies (rw c.line.ensures line.front) going.answered))

pub returns-in-Ok-Last-clause-goes : goal.returns-in-Ok-Last-clause-goes
returns-in-Ok-Last-clause-goes g c =
    let last = rw c.in-Ok-Last.field-0-is at c.in-Ok-Last.ensures.read in
    let part = last.0 in
    λ begin start first going. rw c.end_after-in-Ok-Last.ensures (last_turn c.lines_add_up.ensures g.R.Responder.takes_memory _ _ start _ first _ _ _ c.next_line.new.self _ going part last.1 last.2
    c.next_line.ensures.lines c.next_line.ensures.bytes c.reply_to-in-Ok-Last.result
    (c.reply_to-in-Ok-Last.ensures.replied begin part.bytes going.lines going.replies (rw c.line-in-Ok-Last.ensures part.front) going.answered))

pub returns-in-Ok-End-clause-goes : goal.returns-in-Ok-End-clause-goes
returns-in-Ok-End-clause-goes g c =
    let end = rw c.in-Ok-End.field-0-is at c.in-Ok-End.ensures.read in
    λ begin start first going. at_end c.lines_add_up.ensures g.R.Responder.takes_memory _ (g.R.Responder.answered begin c.args.responder.now) start _ first _ (g.W.Sink.written c.args.output.now) _ c.next_line.new.self _ going
    end.0 end.1 end.2 c.next_line.ensures.lines c.next_line.ensures.bytes

pub returns-in-Ok-TooLong-clause-goes : goal.returns-in-Ok-TooLong-clause-goes
returns-in-Ok-TooLong-clause-goes g c =
    let long = rw c.in-Ok-TooLong.field-0-is at c.in-Ok-TooLong.ensures.read in
    λ begin start first going. at_limit c.lines_add_up.ensures g.R.Responder.takes_memory _ (g.R.Responder.answered begin c.args.responder.now) start _ first _ (g.W.Sink.written c.args.output.now) _ c.next_line.new.self _ going
    long.0 long.1 long.2 c.next_line.ensures.lines c.next_line.ensures.bytes

pub returns-in-Err-clause-goes : goal.returns-in-Err-clause-goes
returns-in-Err-clause-goes g c =
    let failed = c.in-Err.ensures.read in
    λ begin start first going. at_fault c.lines_add_up.ensures g.R.Responder.takes_memory _ (g.R.Responder.answered begin c.args.responder.now) start _ first _ (g.W.Sink.written c.args.output.now) _ c.next_line.new.self _ going
    failed.0 failed.1 c.next_line.ensures.lines c.next_line.ensures.bytes

pub returns-in-Ok-Line-clause-counted : goal.returns-in-Ok-Line-clause-counted
returns-in-Ok-Line-clause-counted g c =
    let line = rw c.in-Ok-Line.field-0-is at c.in-Ok-Line.ensures.read in
    anyway (c.args.reader.now.lines < c.next_line.new.self.lines) c.end_after.result (grind (arith, line.lines))

pub returns-in-Ok-Last-clause-counted : goal.returns-in-Ok-Last-clause-counted
returns-in-Ok-Last-clause-counted g c = rw c.end_after-in-Ok-Last.ensures (last_ends _ c.reply_to-in-Ok-Last.result)

pub returns-in-Ok-Line-clause-input : goal.returns-in-Ok-Line-clause-input
returns-in-Ok-Line-clause-input g c = source_kept _ _ _ _ _ _ (still_read c.reply_to.result None _ c.end_after.ensures (λ is. cc)) c.next_line.ensures.telling c.in-Ok-Line.ensures.steady

pub returns-in-Ok-Last-clause-input : goal.returns-in-Ok-Last-clause-input
returns-in-Ok-Last-clause-input g c = source_kept _ _ _ _ _ _ (still_read c.reply_to-in-Ok-Last.result (Some Fine) _ c.end_after-in-Ok-Last.ensures (λ is. cc)) c.next_line.ensures.telling c.in-Ok-Last.ensures.steady

pub returns-in-Ok-End-clause-input : goal.returns-in-Ok-End-clause-input
returns-in-Ok-End-clause-input g c = source_kept _ _ _ _ _ _ (λ is. cc) c.next_line.ensures.telling c.in-Ok-End.ensures.steady

pub returns-in-Ok-TooLong-clause-input : goal.returns-in-Ok-TooLong-clause-input
returns-in-Ok-TooLong-clause-input g c = source_kept _ _ _ _ _ _ (λ is. cc) c.next_line.ensures.telling c.in-Ok-TooLong.ensures.steady

pub returns-in-Err-clause-input : goal.returns-in-Err-clause-input
returns-in-Err-clause-input g c = source_failed _ _ _ _ _ _ refl c.next_line.ensures.telling c.next_line.ensures.later c.in-Err.ensures.cause

pub returns-in-Ok-Line-clause-output : goal.returns-in-Ok-Line-clause-output
returns-in-Ok-Line-clause-output g c = sink_after c.reply_to.result None _ _ _ _ _ _ _ c.end_after.ensures (λ is. cc) c.reply_to.ensures.output

pub returns-in-Ok-Last-clause-output : goal.returns-in-Ok-Last-clause-output
returns-in-Ok-Last-clause-output g c = sink_after c.reply_to-in-Ok-Last.result (Some Fine) _ _ _ _ _ _ _ c.end_after-in-Ok-Last.ensures (λ is. cc) c.reply_to-in-Ok-Last.ensures.output

pub returns-in-Ok-End-clause-output : goal.returns-in-Ok-End-clause-output
returns-in-Ok-End-clause-output g c = sink_unasked _ _ _ _ _ (λ is. cc)

pub returns-in-Ok-TooLong-clause-output : goal.returns-in-Ok-TooLong-clause-output
returns-in-Ok-TooLong-clause-output g c = sink_unasked _ _ _ _ _ (λ is. cc)

pub returns-in-Err-clause-output : goal.returns-in-Err-clause-output
returns-in-Err-clause-output g c = sink_unasked _ _ _ _ _ (λ is. cc)
