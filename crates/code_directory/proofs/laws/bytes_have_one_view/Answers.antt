use Rattle.code_directory.proofs.ViewLemmas.{one_view, one_fault, apart}
use Rattle.code_directory.proofs.laws.bytes_have_one_view.Goals as goal

pub returns-clause-one : goal.returns-clause-one
returns-clause-one c = one_view c.bytes_begin_with_one_blob.ensures

pub returns-clause-fault : goal.returns-clause-fault
returns-clause-fault c = one_fault c.bytes_begin_with_one_blob.ensures c.super_blobs_have_no_fault.ensures c.there_is_one_first_fault.ensures

pub returns-clause-apart : goal.returns-clause-apart
returns-clause-apart c = apart c.bytes_begin_with_one_blob.ensures c.super_blobs_have_no_fault.ensures
