-- The words of a text that is left are that text.
use Rattle.std.proofs.Common.{◌∙◌, ap}
use Rattle.std.specs.Option.{option_copied}
use Rattle.line_model.specs.Requirements.{rest_of}
use Rattle.line_words.specs.Left.{left_words}
use Rattle.line_words.proofs.OneWordAtLeast.{rest_of-words}
use Rattle.line_words.proofs.cursor.Cursor.rest.Goals as goal

pub returns-in-Some-clause-text : goal.returns-in-Some-clause-text
returns-in-Some-clause-text c = ap (λ rest. rest_of c.args.self.now.column (left_words (option_copied rest))) c.in-Some.is ∙ rest_of-words c.args.self.now.column c.in-Some.text.now
