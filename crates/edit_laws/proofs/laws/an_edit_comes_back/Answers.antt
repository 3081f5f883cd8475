use Rattle.edit_laws.proofs.ComesBack.{edit_comes_back}
use Rattle.edit_laws.proofs.laws.an_edit_comes_back.Goals as goal

pub returns : goal.returns
returns c =
    edit_comes_back c.contents_read_back.ensures.edit c.texts_ask_for_one_content.ensures.edit c.what_is_asked_has_no_fault.ensures.edit
    c.args.edit.now c.args.edit.now.key.key c.a_content_fits_a_line.ensures
