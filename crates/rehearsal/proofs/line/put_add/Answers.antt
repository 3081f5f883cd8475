-- The parts, one behind the other.
use Rattle.std.proofs.Common.{List, [], ◌∷◌, codes, arith}
use Rattle.rehearsal.specs.Draws.{Piece, fixed, drawn}
use Rattle.rehearsal.specs.Made.{kind, verdict_text, numbered, expiry, requirement}
use Rattle.rehearsal.proofs.Laying.{lays_none, lays_more, lays_within}
use Rattle.rehearsal.proofs.line.put_add.Goals as goal

pub returns : goal.returns
returns c =
    let rest-7 : List Piece = requirement ∷ [] in
    let rest-6 : List Piece = fixed (codes " -") ∷ rest-7 in
    let rest-5 : List Piece = drawn 8 (numbered (codes " L")) ∷ rest-6 in
    let rest-4 : List Piece = expiry c.args.now ∷ rest-5 in
    let rest-3 : List Piece = drawn 100 (numbered (codes " ")) ∷ rest-4 in
    let rest-2 : List Piece = drawn 2 verdict_text ∷ rest-3 in
    let rest-1 : List Piece = kind ∷ rest-2 in
    lays_within _ _ 400 _ _
    (lays_more _ rest-1 _ _ _ _ _ c.put_number.ensures
    (lays_more _ rest-2 _ _ _ _ _ c.put_kind.ensures
    (lays_more _ rest-3 _ _ _ _ _ c.put_verdict.ensures
    (lays_more _ rest-4 _ _ _ _ _ c.put_drawn.ensures
    (lays_more _ rest-5 _ _ _ _ _ c.put_expiry.ensures
    (lays_more _ rest-6 _ _ _ _ _ c.put_drawn-2.ensures
    (lays_more _ rest-7 _ _ _ _ _ c.put.ensures
    (lays_more _ [] _ _ _ _ _ c.put_requirement.ensures
    (lays_none _)))))))))
    (omega (arith))
