use Rattle.std.proofs.Common.{arith}
use Rattle.req_ops.proofs.SetLaws.{set_found, set_only, set_exact, blob_only}
use Rattle.req_ops.proofs.SetSpelled.{read_can_encode}
use Rattle.req_ops.proofs.decoding.decode_set.Goals as goal

pub returns-in-Ok-clause-found : goal.returns-in-Ok-clause-found
returns-in-Ok-clause-found c = set_found c.bytes_are_read_where_they_spell.ensures _ _ _ _ (λ i. omega (arith, c.type_inv.bytes i)) c.in-Ok.ensures.found.0 c.in-Ok.ensures.found.1 c.decode_whole.ensures

pub returns-in-Ok-clause-only : goal.returns-in-Ok-clause-only
returns-in-Ok-clause-only c = λ set is. set_only c.bytes_are_read_where_they_spell.ensures c.bytes_begin_with_one_blob.ensures c.super_blobs_have_no_fault.ensures _ _ _ _ set (λ i. omega (arith, c.type_inv.bytes i)) c.in-Ok.ensures.found.1 c.decode_whole.ensures is

pub returns-in-Ok-clause-exact : goal.returns-in-Ok-clause-exact
returns-in-Ok-clause-exact c = set_exact _ _ _ _ c.in-Ok.ensures.found.1 c.decode_whole.ensures

pub returns-in-Err-clause-only : goal.returns-in-Err-clause-only
returns-in-Err-clause-only c = λ set is. absurd (blob_only c.super_blobs_have_no_fault.ensures _ _ set c.in-Err.ensures.first is)

pub returns-in-Ok-clause-encodable : goal.returns-in-Ok-clause-encodable
returns-in-Ok-clause-encodable c =
    read_can_encode c.what_is_spelt_can_be_written.ensures _ _
    (set_found c.bytes_are_read_where_they_spell.ensures _ _ _ _ (λ i. omega (arith, c.type_inv.bytes i)) c.in-Ok.ensures.found.0 c.in-Ok.ensures.found.1 c.decode_whole.ensures)
