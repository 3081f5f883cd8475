use Rattle.asked_edits.proofs.Histories.{asked_stores}
use Rattle.asked_edits.proofs.laws.asked_stores_are_read_again.Goals as goal

pub returns : goal.returns
returns c = asked_stores c.what_is_asked_fits.ensures.edit c.stores_are_read_again.ensures.history
