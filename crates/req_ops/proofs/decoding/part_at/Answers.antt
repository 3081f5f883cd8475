use Rattle.std.proofs.Common.{sym, refl, ap, ◌∙◌, arith, subst, ◌≤◌}
use Rattle.req_tree.specs.TreeSet.{IsSetKind}
use Rattle.req_blob.specs.Decoding.{decoded}
use Rattle.req_ops.proofs.SetParts.{the_part}
use Rattle.req_ops.proofs.SetLaws.{read_fault}
use Rattle.req_ops.proofs.decoding.part_at.Goals as goal

pub unreachable-requires : goal.unreachable-requires
unreachable-requires c = c.in-None.ensures _ (c.args.index, c.requires.among, sym c.kind_at-kind.ensures, refl)

pub returns-in-Err : goal.returns-in-Err
returns-in-Err c =
    let low : 1 ≤ c.kind_at-kind.result = omega arith in
    let high : c.kind_at-kind.result ≤ 5 = omega arith in
    rw c.part_fault.ensures
    (read_fault _ _ _ (subst IsSetKind c.kind_at-kind.ensures (low, high)) (λ other. ap decoded (the_part _ _ _ _ _ c.requires.whole c.requires.among c.kind_at-kind.ensures c.in-Some.ensures) ∙ c.in-Err.ensures.exact other))
