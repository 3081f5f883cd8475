use Rattle.run_commands.proofs.OneStatus.{files_have_one_status, timeless_status_is_one, bad_store_is_one}
use Rattle.run_commands.proofs.laws.each_command_has_one_status.Goals as goal

pub returns-clause-told : goal.returns-clause-told
returns-clause-told c =
    files_have_one_status c.a_run_begins_or_not.ensures.one c.a_run_begins_or_not.ensures.apart c.a_run_begins_or_not.ensures.status
    c.each_work_has_one_status.ensures.compile c.each_work_has_one_status.ensures.compile_set c.each_work_has_one_status.ensures.dump
    c.an_assessment_has_one_status.ensures.told

pub returns-clause-timeless : goal.returns-clause-timeless
returns-clause-timeless c =
    timeless_status_is_one c.a_run_begins_or_not.ensures.one c.a_run_begins_or_not.ensures.apart c.a_run_begins_or_not.ensures.status
    c.each_work_has_one_status.ensures.compile c.each_work_has_one_status.ensures.compile_set c.each_work_has_one_status.ensures.dump
    c.an_assessment_has_one_status.ensures.refused

pub returns-clause-store : goal.returns-clause-store
returns-clause-store c = bad_store_is_one c.a_run_begins_or_not.ensures.apart c.a_run_begins_or_not.ensures.status
