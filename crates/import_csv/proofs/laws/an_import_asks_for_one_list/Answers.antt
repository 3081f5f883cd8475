use Rattle.import_csv.proofs.OneImport.{import_is_one, import_has_no_fault, first_fault_is_one}
use Rattle.import_csv.proofs.laws.an_import_asks_for_one_list.Goals as goal

pub returns-clause-edits : goal.returns-clause-edits
returns-clause-edits c = import_is_one c.a_text_has_one_list_of_records.ensures.one c.texts_say_one_tree.ensures.tree c.a_failing_text_is_no_requirement.ensures

pub returns-clause-apart : goal.returns-clause-apart
returns-clause-apart c = import_has_no_fault c.a_text_has_one_list_of_records.ensures.one c.texts_say_one_tree.ensures.tree c.a_failing_text_is_no_requirement.ensures

pub returns-clause-fault : goal.returns-clause-fault
returns-clause-fault c = first_fault_is_one c.a_text_has_one_list_of_records.ensures.one c.texts_say_one_tree.ensures.tree c.a_failing_text_is_no_requirement.ensures
