use Rattle.asked_edits.proofs.laws.what_was_read_is_read_again.Goals as goal

pub returns : goal.returns
returns c text content bytes reads = c.contents_read_back.ensures.content content (c.what_is_asked_fits.ensures.content text content bytes reads)
