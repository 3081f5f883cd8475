use Rattle.std.proofs.Common.{arith}
use Rattle.std.proofs.lemmas.List.{length-take}
use Rattle.gk_io.proofs.WholeFile.{one_past, one_past_at_most}
use Rattle.gk_io.proofs.whole_file.read_whole.Goals as goal

pub returns-then-room-count-clause-longer : goal.returns-then-room-count-clause-longer
returns-then-room-count-clause-longer g c =
    let read = c.in_ok-count.ensures in
    λ longer. one_past _ _ _ c.loop-count.into.items _ c.args.limit c.in_ok-count.count c.loop-count.invariant.taken read.bytes.0 read.bound.0 c.loop-count.invariant.fits (grind (arith, c.read.auto.buf, length-take c.min-asked.result c.loop-count.piece, c.min-asked.ensures, c.saturating_add.ensures, c.len.ensures, c.loop-count.invariant.fits)) (grind (arith, c.if-room-count.true, c.len.ensures, c.loop-count.invariant.fits))

pub returns-then-room-count-clause-further : goal.returns-then-room-count-clause-further
returns-then-room-count-clause-further g c =
    let read = c.in_ok-count.ensures in
    one_past_at_most _ _ _ c.loop-count.into.items _ c.args.limit c.in_ok-count.count c.loop-count.invariant.taken read.bytes.0 read.bound.0 c.loop-count.invariant.fits (grind (arith, c.read.auto.buf, length-take c.min-asked.result c.loop-count.piece, c.min-asked.ensures, c.saturating_add.ensures, c.len.ensures, c.loop-count.invariant.fits))

pub returns-in_err-extend_from_slice-clause-further : goal.returns-in_err-extend_from_slice-clause-further
returns-in_err-extend_from_slice-clause-further g c =
    let read = c.in_ok-count.ensures in
    one_past_at_most _ _ _ c.loop-count.into.items _ c.args.limit c.in_ok-count.count c.loop-count.invariant.taken read.bytes.0 read.bound.0 c.loop-count.invariant.fits (grind (arith, c.read.auto.buf, length-take c.min-asked.result c.loop-count.piece, c.min-asked.ensures, c.saturating_add.ensures, c.len.ensures, c.loop-count.invariant.fits))
