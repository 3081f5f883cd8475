use Rattle.std.proofs.Math.Logic.{∥∥₁_map₂}
use Rattle.rule_edits.specs.Edit.{content_of}
use Rattle.edit_laws.proofs.laws.a_text_is_of_one_content.Goals as goal

pub returns : goal.returns
returns c same =
    ∥∥₁_map₂ c.a_content_fits_a_line.ensures c.a_content_fits_a_line-2.ensures
    (λ a b. c.texts_are_of_one_content.ensures (content_of c.args.first.now) (content_of c.args.second.now) a b same)
