use Rattle.csv_records.proofs.EachHasRecords.{text_records}
use Rattle.csv_records.proofs.OneList.{one_list, taken_front}
use Rattle.csv_records.proofs.laws.a_text_has_one_list_of_records.Goals as goal

pub returns-clause-some : goal.returns-clause-some
returns-clause-some c = text_records

pub returns-clause-one : goal.returns-clause-one
returns-clause-one c = one_list

pub returns-clause-front : goal.returns-clause-front
returns-clause-front c = taken_front
