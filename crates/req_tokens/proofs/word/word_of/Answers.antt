use Rattle.std.proofs.Common.{sym, ◌∙◌}
use Rattle.req_tokens.specs.Words.{plain_word}
use Rattle.req_tokens.proofs.WordHalves.{in_first_half, in_second_half}
use Rattle.req_tokens.proofs.word.word_of.Goals as goal

pub returns-in-Some : goal.returns-in-Some
returns-in-Some c = sym (in_first_half c.args.text.now (plain_word c.in-Some.word) (sym c.in-Some.ensures))

pub returns-in-None : goal.returns-in-None
returns-in-None c = c.late_word.ensures ∙ sym (in_second_half c.args.text.now (sym c.in-None.ensures))
