use Rattle.std.proofs.Common.{◌≡◌, ◌+◌, length, bytes_eq}
use Rattle.std.specs.List.{list_any}
use Rattle.std.specs.Option.{option_copied, option_map_or}
use Rattle.rehearsal.specs.Pieces.{pieces, pieces_left}
use Rattle.rehearsal.proofs.saying.has.Given as goal

abbrev pub invariant-loop-left : goal.invariant-loop-left
invariant-loop-left l = list_any (λ w. bytes_eq w l.word) (pieces_left 32 (option_copied l.left)) ≡ list_any (λ w. bytes_eq w l.word) (pieces 32 l.reply)

abbrev pub decreases-loop-left : goal.decreases-loop-left
decreases-loop-left l = option_map_or (λ r. length r.now + 1) l.left 0
