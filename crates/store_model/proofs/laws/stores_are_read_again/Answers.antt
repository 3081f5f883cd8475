use Rattle.store_model.proofs.ReadAgain.{kept_again, histories_again}
use Rattle.store_model.proofs.laws.stores_are_read_again.Goals as goal

pub returns-clause-kept : goal.returns-clause-kept
returns-clause-kept c = kept_again c.stored_rows_mean_tables.ensures.once c.refused_rows.ensures.accepted

pub returns-clause-history : goal.returns-clause-history
returns-clause-history c =
    histories_again c.stored_tables.ensures.history c.stored_rows_mean_tables.ensures.kept
    (kept_again c.stored_rows_mean_tables.ensures.once c.refused_rows.ensures.accepted)
