use Rattle.std.proofs.Common.{◌∙◌, subst, arith}
use Rattle.std.proofs.lemmas.Bool.Decides.{nat_tests}
use Rattle.line_reader.specs.Reading.{stream}
use Rattle.line_reader.specs.Steps.{IsRun}
use Rattle.line_reader.proofs.LineGrows.{part_ready, part_grows, line_ends, ready_kept}
use Rattle.line_reader.proofs.reader.LineReader.next_line.Goals as goal

pub returns-then-take_run-clause-read : goal.returns-then-take_run-clause-read
returns-then-take_run-clause-read g c =
    let start = stream c.args.self.now (g.S.Source.left c.args.source.now) in
    let kept = ready_kept _ _ _ c.ready.result c.ready.ensures.bytes in
    let part = part_ready start c.loop-self.self c.ready.new.self _ _ c.loop-self.invariant.part c.ready.ensures.same kept in
    line_ends start c.ready.new.self c.take_run.new.self _ part (subst (IsRun c.ready.new.self c.take_run.new.self) c.if-take_run.true c.take_run.ensures)

pub loop-self-preserved : goal.loop-self-preserved
loop-self-preserved g c =
    let start = stream c.args.self.now (g.S.Source.left c.args.source.now) in
    let kept = ready_kept _ _ _ c.ready.result c.ready.ensures.bytes in
    let part = part_ready start c.loop-self.self c.ready.new.self _ _ c.loop-self.invariant.part c.ready.ensures.same kept in
    record {
      part = part_grows start c.ready.new.self c.take_run.new.self _ part
          (grind (arith, nat_tests, c.if-self-eq-SESSION_LINES.false, c.ready.new.self.lines_within))
          (subst (IsRun c.ready.new.self c.take_run.new.self) c.if-take_run.false c.take_run.ensures);
      telling = c.ready.ensures.telling ∙ c.loop-self.invariant.telling;
      steady = c.in_ok-ready.ensures.steady ∙ c.loop-self.invariant.steady;
    }
