-- A text that is read is short enough, and no LF was found in it.
use Rattle.std.proofs.Common.{◌∙◌, sym, arith}
use Rattle.rule_edits.proofs.NoLf.{no_lf}
use Rattle.rule_edits.proofs.requirement.read_text.Goals as goal

pub returns-in-None-clause-rule_text : goal.returns-in-None-clause-rule_text
returns-in-None-clause-rule_text c = record {
  short = omega (arith, c.if-text-gt-MOST_TEXT_BYTES.false);
  one_line = no_lf c.in_ok-text.text.now (sym c.find_lf.ensures ∙ c.in-None.is);
}
