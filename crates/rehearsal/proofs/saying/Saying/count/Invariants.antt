use Rattle.std.proofs.Common.{◌≡◌, ◌≤◌, ◌+◌, length, count_by}
use Rattle.std.specs.Option.{option_copied, option_map_or}
use Rattle.rehearsal.specs.Pieces.{pieces, pieces_left}
use Rattle.rehearsal.specs.Sayings.{says}
use Rattle.rehearsal.proofs.saying.Saying.count.Given as goal

abbrev pub invariant-loop-left : goal.invariant-loop-left
invariant-loop-left l = record {
  counted : l.count + count_by (says l.self) (pieces_left 10 (option_copied l.left)) ≡ count_by (says l.self) (pieces 10 l.replies);
  few : l.count + option_map_or (λ r. length r.now + 1) l.left 0 ≤ length l.replies + 1;
}

abbrev pub decreases-loop-left : goal.decreases-loop-left
decreases-loop-left l = option_map_or (λ r. length r.now + 1) l.left 0
