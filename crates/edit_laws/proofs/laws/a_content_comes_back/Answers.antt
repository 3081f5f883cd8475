use Rattle.edit_laws.proofs.ComesBack.{content_comes_back}
use Rattle.edit_laws.proofs.laws.a_content_comes_back.Goals as goal

pub returns : goal.returns
returns c =
    content_comes_back c.contents_read_back.ensures.content c.texts_ask_for_one_content.ensures.content c.what_is_asked_has_no_fault.ensures.content
    c.args.content.now c.a_content_fits_a_line.ensures
