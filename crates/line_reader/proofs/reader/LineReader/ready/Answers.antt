use Rattle.std.proofs.Common.{◌≡◌, [], arith}
use Rattle.std.proofs.lemmas.List.{nil_from_length}
use Rattle.line_reader.specs.Reading.{pending}
use Rattle.gk_io.specs.declared.fault.Failed.{Failed}
use Rattle.line_reader.proofs.BetweenPlaces.{ready_after, length_pending}
use Rattle.line_reader.proofs.reader.LineReader.ready.Goals as goal

pub returns-clause-bytes : goal.returns-clause-bytes
returns-clause-bytes g c =
    let filled = c.in_ok-refill.ensures.bytes in
    let test = c.if-self.false in
    let old = c.args.self.now in
    let new = c.refill.new.self in
    let none : pending old ≡ [] = nil_from_length (pending old) (grind (arith, test, length_pending old.next old.end old.piece.items old.filled)) in
    ready_after Failed (g.S.Source.left c.args.source.now) (g.S.Source.left c.refill.new.source) new.next new.end new.piece.items (pending old) none new.filled filled.0 filled.1
