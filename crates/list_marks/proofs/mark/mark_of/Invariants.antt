use Rattle.std.specs.Prelude.{◌≡◌, drop}
use Rattle.list_marks.specs.Marks.{mark_from}
use Rattle.list_marks.proofs.mark.mark_of.Given as goal

abbrev pub invariant-loop-byte : goal.invariant-loop-byte
invariant-loop-byte l = mark_from l.mark (drop l.byte-index l.bytes) ≡ mark_from 0 l.bytes
