-- The session ended well, and no edit failed.
use Rattle.std.proofs.Common.{◌≡◌, ℕ, List, sym, ◌∙◌, ap, arith}
use Rattle.std.proofs.lemmas.Bool.Decides.{nat_tests}
use Rattle.gk_io.specs.Memory.{source_left, sink_written}
use Rattle.line_reader.specs.Lines.{lines_of}
use Rattle.memory_keeper.specs.Memory.{keeper_faults}
use Rattle.rehearsal.specs.Counts.{counts}
use Rattle.rehearse_command.proofs.Answered.{fine_counts}
use Rattle.rehearse_command.proofs.rehearsing.tally_of.Goals as goal

pub returns-then-faults-eq0 : goal.returns-then-faults-eq0
returns-then-faults-eq0 c facts stands =
    let zero : c.faults.result ≡ 0 = grind (arith, nat_tests, c.if-faults-eq0.true) in
    fine_counts c.args.desk.now c.session_lines.new.desk facts c.args.steps (keeper_faults c.args.keeper.now) (keeper_faults c.session_lines.new.keeper)
    (source_left c.new-input.result) (source_left c.session_lines.new.input) (sink_written c.in_ok-output.output) (sink_written c.session_lines.new.output) _
    (c.new-input.ensures.left ∙ c.in_ok-bytes.ensures.items ∙ c.as_slice.ensures ∙ c.in_ok-text.ensures)
    c.in_ok-output.ensures.written stands c.in-Fine.ensures.ends
    (sym c.faults.ensures ∙ zero)
    (c.of.ensures ∙ ap (λ (t : List ℕ). counts (lines_of t)) c.written.ensures)
