use Rattle.std.proofs.Common.{Ok, subst}
use Rattle.policy_model.specs.Texts.{content_text}
use Rattle.line_model.specs.Edits.{IsContentLine}
use Rattle.line_laws.proofs.laws.texts_are_of_one_content.Goals as goal

pub returns : goal.returns
returns c a b fits_a fits_b same =
    c.texts_ask_for_one_content.ensures.content (content_text b) a b
    (subst (λ text. IsContentLine text (Ok a)) same (c.contents_read_back.ensures.content a fits_a))
    (c.contents_read_back.ensures.content b fits_b)
