-- The parts, one behind the other.
use Rattle.std.proofs.Common.{◌+◌, List, [], ◌∷◌, codes, arith}
use Rattle.rehearsal.specs.Draws.{Piece, fixed, drawn}
use Rattle.rehearsal.specs.Made.{numbered}
use Rattle.rehearsal.proofs.Laying.{lays_none, lays_more, lays_within}
use Rattle.rehearsal.proofs.line.put_choice.Goals as goal

pub returns : goal.returns
returns c =
    let rest-2 : List Piece = fixed (codes " any") ∷ [] in
    let rest-1 : List Piece = drawn c.args.step (λ d. numbered (codes " id ") (d + 1)) ∷ rest-2 in
    lays_within _ _ 400 _ _
    (lays_more _ rest-1 _ _ _ _ _ c.put_number.ensures
    (lays_more _ rest-2 _ _ _ _ _ c.put_rule.ensures
    (lays_more _ [] _ _ _ _ _ c.put.ensures
    (lays_none _))))
    (omega (arith, c.requires))
