use Rattle.code_facts.proofs.Refusals.{right_or_bad, not_both, one_facts, one_fault}
use Rattle.code_facts.proofs.laws.a_file_is_right_or_has_a_first_fault.Goals as goal

pub returns-clause-either : goal.returns-clause-either
returns-clause-either c = right_or_bad c.a_text_has_one_list_of_records.ensures.some

pub returns-clause-apart : goal.returns-clause-apart
returns-clause-apart c = not_both c.a_text_has_one_list_of_records.ensures.one

pub returns-clause-facts : goal.returns-clause-facts
returns-clause-facts c = one_facts c.a_text_has_one_list_of_records.ensures.one

pub returns-clause-fault : goal.returns-clause-fault
returns-clause-fault c = one_fault c.a_text_has_one_list_of_records.ensures.one
