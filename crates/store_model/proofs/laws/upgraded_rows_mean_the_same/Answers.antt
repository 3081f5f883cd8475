use Rattle.store_model.proofs.Upgrading.{upgraded_stays, stored_stays, upgraded_means_the_same, upgraded_is_accepted, upgraded_is_refused}
use Rattle.store_model.proofs.laws.upgraded_rows_mean_the_same.Goals as goal

pub returns-clause-stays : goal.returns-clause-stays
returns-clause-stays c = upgraded_stays

pub returns-clause-stored : goal.returns-clause-stored
returns-clause-stored c = stored_stays

pub returns-clause-meaning : goal.returns-clause-meaning
returns-clause-meaning c = upgraded_means_the_same

pub returns-clause-accepted : goal.returns-clause-accepted
returns-clause-accepted c = upgraded_is_accepted

pub returns-clause-refused : goal.returns-clause-refused
returns-clause-refused c = upgraded_is_refused
