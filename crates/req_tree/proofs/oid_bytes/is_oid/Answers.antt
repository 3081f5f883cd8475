use Rattle.std.proofs.Common.{arith}
use Rattle.req_tree.proofs.OidNumbers.{is_oid_when}
use Rattle.req_tree.proofs.OidTest.{none_read, same_test}
use Rattle.req_tree.proofs.oid_bytes.is_oid.Goals as goal

pub returns-then-is_empty-clause-read : goal.returns-then-is_empty-clause-read
returns-then-is_empty-clause-read c = none_read _ _ c.is_empty.ensures c.if-is_empty.true

pub returns-clause-oid : goal.returns-clause-oid
returns-clause-oid c = is_oid_when _ _ _ c.is_empty.ensures c.if-is_empty.false c.has_numbers.ensures

pub returns-clause-read : goal.returns-clause-read
returns-clause-read c =
    same_test c.args.bytes.now _ (λ i. omega (arith, c.type_inv.bytes i)) (is_oid_when _ _ _ c.is_empty.ensures c.if-is_empty.false c.has_numbers.ensures)
