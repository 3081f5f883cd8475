use Rattle.run_commands.proofs.OneTableStatus.{tables_have_one_status}
use Rattle.run_commands.proofs.laws.each_table_command_has_one_status.Goals as goal

pub returns : goal.returns
returns c =
    tables_have_one_status c.a_run_begins_or_not.ensures.one c.a_run_begins_or_not.ensures.apart c.a_run_begins_or_not.ensures.status
    c.texts_ask_for_one_content.ensures.edit c.what_is_asked_has_no_fault.ensures.edit c.an_import_asks_for_one_list.ensures.edits c.an_import_asks_for_one_list.ensures.apart
