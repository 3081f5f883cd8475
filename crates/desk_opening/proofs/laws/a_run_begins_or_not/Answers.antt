use Rattle.desk_opening.proofs.Beginnings.{one_opening, opened_is_not_unopened, unopened_has_one_status, read_is_not_refused, refused_has_one_status}
use Rattle.desk_opening.proofs.Spoken.{unopened_is_deskless, unopened_is_spoken}
use Rattle.desk_opening.proofs.laws.a_run_begins_or_not.Goals as goal

pub returns-clause-one : goal.returns-clause-one
returns-clause-one c = one_opening c.a_file_is_right_or_has_a_first_fault.ensures.facts c.stored_rows_mean_tables.ensures.once

pub returns-clause-apart : goal.returns-clause-apart
returns-clause-apart c = opened_is_not_unopened c.a_file_is_right_or_has_a_first_fault.ensures.apart c.refused_rows.ensures.accepted

pub returns-clause-status : goal.returns-clause-status
returns-clause-status c = unopened_has_one_status c.a_file_is_right_or_has_a_first_fault.ensures.apart

pub returns-clause-spoken : goal.returns-clause-spoken
returns-clause-spoken c = unopened_is_spoken

pub returns-clause-facts_apart : goal.returns-clause-facts_apart
returns-clause-facts_apart c = read_is_not_refused c.a_file_is_right_or_has_a_first_fault.ensures.apart

pub returns-clause-facts_status : goal.returns-clause-facts_status
returns-clause-facts_status c = refused_has_one_status c.a_file_is_right_or_has_a_first_fault.ensures.apart

pub returns-clause-deskless : goal.returns-clause-deskless
returns-clause-deskless c = unopened_is_deskless
