use Rattle.session_laws.proofs.StaysKept.{stays_kept, is_read_again}
use Rattle.session_laws.proofs.laws.sessions_are_read_again.Goals as goal

pub returns-clause-kept : goal.returns-clause-kept
returns-clause-kept c = stays_kept c.sessions_were_asked.ensures.edits c.asked_histories_stay_kept.ensures

pub returns-clause-again : goal.returns-clause-again
returns-clause-again c =
    is_read_again (stays_kept c.sessions_were_asked.ensures.edits c.asked_histories_stay_kept.ensures)
    c.stored_rows_mean_tables.ensures.kept c.stores_are_read_again.ensures.kept
