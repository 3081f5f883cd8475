use Rattle.std.proofs.Common.{sym}
use Rattle.req_tree.proofs.OidNumbers.{bytes_after, has_after, has_before, has_numbers_when}
use Rattle.req_tree.proofs.oid_bytes.has_numbers.Goals as goal

pub loop-after-preserved : goal.loop-after-preserved
loop-after-preserved c =
    let read = sym c.in-Some.ensures.number in
    let so_far = c.loop-after.invariant in
    record {
      are = bytes_after _ _ _ so_far.are read;
      to = λ has. has_after _ _ _ read (so_far.to has);
      back = λ has. so_far.back (has_before _ _ _ so_far.are read has);
    }

pub returns : goal.returns
returns c = has_numbers_when _ _ _ c.is_empty.ensures (sym c.in_default.ensures.number) c.loop-after.invariant.to c.loop-after.invariant.back
