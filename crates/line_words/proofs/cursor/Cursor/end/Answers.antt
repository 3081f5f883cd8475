-- A text that is left has a word.
use Rattle.std.proofs.Common.{◌∙◌, ap}
use Rattle.std.specs.Option.{option_copied}
use Rattle.line_model.specs.Left.{end_of}
use Rattle.line_words.specs.Left.{left, left_words}
use Rattle.line_words.proofs.OneWordAtLeast.{end_of-words}
use Rattle.line_words.proofs.cursor.Cursor.end.Goals as goal

pub returns-in-Some : goal.returns-in-Some
returns-in-Some c = ap (λ rest. end_of (left c.args.self.now) (left_words (option_copied rest))) c.in-Some.is ∙ end_of-words (left c.args.self.now) c.in-Some.field-0.now
