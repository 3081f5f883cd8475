use Rattle.line_reader.proofs.FrontsGrow.{held_after}
use Rattle.line_reader.proofs.held_line.HeldLine.hold.Goals as goal
use Rattle.line_text.specs.declared.limits.TheConstants.{LINE_HELD}

pub returns : goal.returns
returns c =
    let room = c.len-room.ensures in
    let put = c.try_extend_from_slice.ensures in
    held_after c.try_extend_from_slice.result LINE_HELD c.min-count.result c.args.self.now.bytes.items c.try_extend_from_slice.new.self.items c.args.run.now
    (rw room.value at room.fits) (rw room.value at c.min-count.ensures) put.variant.1 put.ok
