-- The parts, one behind the other.
use Rattle.std.proofs.Common.{List, [], ◌∷◌, codes, arith}
use Rattle.rehearsal.specs.Draws.{Piece, fixed, drawn}
use Rattle.rehearsal.specs.Made.{hash_text, numbered}
use Rattle.rehearsal.proofs.Laying.{lays_none, lays_more, lays_within}
use Rattle.rehearsal.proofs.line.put_subject_by.Goals as goal

pub returns : goal.returns
returns c =
    let rest-3 : List Piece = drawn 4 (numbered (codes " ")) ∷ [] in
    let rest-2 : List Piece = fixed (numbered (codes " a") c.args.code) ∷ rest-3 in
    let rest-1 : List Piece = fixed (hash_text c.args.code) ∷ rest-2 in
    lays_within _ _ 100 _ _
    (lays_more _ rest-1 _ _ _ _ _ c.put.ensures
    (lays_more _ rest-2 _ _ _ _ _ c.put_hash.ensures
    (lays_more _ rest-3 _ _ _ _ _ c.put_number.ensures
    (lays_more _ [] _ _ _ _ _ c.put_drawn.ensures
    (lays_none _)))))
    (omega (arith))
