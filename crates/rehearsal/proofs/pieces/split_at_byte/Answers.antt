-- The first byte of the value cuts the first piece off.
use Rattle.std.proofs.Common.{sym, ◌∙◌}
use Rattle.rehearsal.proofs.FirstPiece.{cut_at, no_cut}
use Rattle.rehearsal.proofs.pieces.split_at_byte.Goals as goal

pub returns-in-Some-clause-pieces : goal.returns-in-Some-clause-pieces
returns-in-Some-clause-pieces c = cut_at c.args.byte c.args.bytes.now c.in-Some.place (sym c.find_byte.ensures ∙ c.in-Some.is)

pub returns-in-None-clause-pieces : goal.returns-in-None-clause-pieces
returns-in-None-clause-pieces c = no_cut c.args.byte c.args.bytes.now (sym c.find_byte.ensures ∙ c.in-None.is)
