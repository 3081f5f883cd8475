use Rattle.std.proofs.Common.{rules, ◌≢◌, arith}
use Rattle.line_words.specs.Faults.{fault_of}
use Rattle.line_words.specs.declared.fault.LineFault.TheVariants.{OutOfMemory}
use Rattle.table_commands.proofs.Saying.{line_refused, on_err}
use Rattle.table_commands.proofs.editing.edit_line.Goals as goal

pub returns-in-Err : goal.returns-in-Err
returns-in-Err g c =
    let known : c.in-Err.fault ≢ OutOfMemory = search rules in
    record {
      says = λ o h stands. line_refused o h c.args.line.now (fault_of c.in-Err.fault) c.args.desk.now (g.K.Keeper.faults c.args.keeper.now) c.refused.result (c.in-Err.ensures known) stands c.refused.ensures;
      unchanged = λ o h stands. on_err c.refused.result stands;
      mirrors = c.requires.mirrors;
      telling = λ told. told;
      later = omega arith;
    }
