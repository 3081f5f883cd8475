use Rattle.asked_edits.proofs.Histories.{asked_histories}
use Rattle.asked_edits.proofs.laws.asked_histories_stay_kept.Goals as goal

pub returns : goal.returns
returns c = asked_histories c.what_is_asked_fits.ensures.edit c.stored_tables.ensures.history
