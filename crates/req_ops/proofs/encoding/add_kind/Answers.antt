use Rattle.std.proofs.Common.{sym, subst, ℕ, List}
use Rattle.req_tree.specs.Tree.{tree_of}
use Rattle.req_blob.specs.Spelling.{IsPlain}
use Rattle.req_ops.proofs.SetWritten.{draft_same, part_sized, part_fits, part_can, part_long, added_more}
use Rattle.req_ops.proofs.encoding.add_kind.Goals as goal

pub encode-requires : goal.encode-requires
encode-requires c = part_can c.args.set.now c.args.kind _ c.requires.set c.in-Some.ensures

pub add_bytes-requires-clause-sized : goal.add_bytes-requires-clause-sized
add_bytes-requires-clause-sized c = part_sized c.a_requirement_is_a_blob.ensures (tree_of c.in-Some.req.now) _ (subst (λ (b : List ℕ). IsPlain (tree_of c.in-Some.req.now) b) (sym c.as_slice.ensures) c.in-Ok.ensures.plain)

pub add_bytes-requires-clause-fits : goal.add_bytes-requires-clause-fits
add_bytes-requires-clause-fits c =
    part_fits c.a_part_fits_where_there_is_room.ensures c.args.set.now c.args.kind _ (tree_of c.in-Some.req.now) _ c.requires.before c.requires.low (subst (λ (b : List ℕ). IsPlain (tree_of c.in-Some.req.now) b) (sym c.as_slice.ensures) c.in-Ok.ensures.plain)

pub returns-in-Ok : goal.returns-in-Ok
returns-in-Ok c =
    added_more _ c.args.set.now c.args.kind _ _ (tree_of c.in-Some.req.now) c.as_slice.result.now c.requires.before c.in-Some.ensures
    (subst (λ (b : List ℕ). IsPlain (tree_of c.in-Some.req.now) b) (sym c.as_slice.ensures) c.in-Ok.ensures.plain)
    c.add_bytes.ensures

pub returns-in-None : goal.returns-in-None
returns-in-None c = draft_same c.args.set.now c.args.kind _ c.requires.before (sym c.in-None.ensures)

pub returns-in-Err : goal.returns-in-Err
returns-in-Err c = part_long c.what_is_refused_is_too_long.ensures c.args.set.now c.args.kind _ _ c.in-Some.ensures c.in-Err.ensures.exact
