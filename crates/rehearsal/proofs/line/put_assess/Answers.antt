-- The parts, one behind the other.
use Rattle.std.proofs.Common.{List, [], ◌∷◌, arith}
use Rattle.rehearsal.specs.Draws.{Piece}
use Rattle.rehearsal.specs.Made.{kind, subject}
use Rattle.rehearsal.proofs.Laying.{lays_none, lays_more, lays_within}
use Rattle.rehearsal.proofs.line.put_assess.Goals as goal

pub returns : goal.returns
returns c =
    let rest-2 : List Piece = subject ∷ [] in
    let rest-1 : List Piece = kind ∷ rest-2 in
    lays_within _ _ 400 _ _
    (lays_more _ rest-1 _ _ _ _ _ c.put.ensures
    (lays_more _ rest-2 _ _ _ _ _ c.put_kind.ensures
    (lays_more _ [] _ _ _ _ _ c.put_subject.ensures
    (lays_none _))))
    (omega (arith))
