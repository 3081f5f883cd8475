use Rattle.asked_edits.proofs.Numbers.{priority_fits, expiry_fits}
use Rattle.asked_edits.proofs.laws.words_that_are_read_fit.Goals as goal

pub returns-clause-priority : goal.returns-clause-priority
returns-clause-priority c = priority_fits

pub returns-clause-expiry : goal.returns-clause-expiry
returns-clause-expiry c = expiry_fits
