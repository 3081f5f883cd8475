use Rattle.std.proofs.KnownBytes.{Consumes-trans}
use Rattle.http_reader.proofs.body.read_body.Goals as goal

pub returns-then-is_err-2-clause-read : goal.returns-then-is_err-2-clause-read
returns-then-is_err-2-clause-read g c = (_, Consumes-trans _ _ _ _ _ c.loop-piece.invariant.so_far.taken c.in_ok-count.ensures.bytes.0)
