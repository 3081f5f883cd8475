use Rattle.std.proofs.Common.{arith}
use Rattle.req_blob.proofs.Blobs.{is_found, is_only}
use Rattle.req_blob.proofs.Written.{found_can}
use Rattle.req_blob.proofs.decoding.decode.Goals as goal

pub returns-clause-found : goal.returns-clause-found
returns-clause-found c = is_found c.bytes_are_read_where_they_spell.ensures _ _ (λ i. omega (arith, c.type_inv.bytes i)) c.decode_first.ensures

pub returns-clause-only : goal.returns-clause-only
returns-clause-only c = λ tree is. is_only c.bytes_are_read_where_they_spell.ensures _ _ tree (λ i. omega (arith, c.type_inv.bytes i)) is c.decode_first.ensures

pub returns-clause-encodable : goal.returns-clause-encodable
returns-clause-encodable c = found_can _ _ (is_found c.bytes_are_read_where_they_spell.ensures _ _ (λ i. omega (arith, c.type_inv.bytes i)) c.decode_first.ensures)
