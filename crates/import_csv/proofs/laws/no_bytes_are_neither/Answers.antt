use Rattle.import_csv.proofs.EachImport.{none_is_neither}
use Rattle.import_csv.proofs.laws.no_bytes_are_neither.Goals as goal

pub returns : goal.returns
returns c = none_is_neither c.a_text_has_one_list_of_records.ensures.some c.no_text_is_neither.ensures.tree
