use Rattle.std.proofs.Common.{◌≡◌, ◌-◌, ◌≤◌, length, is_some}
use Rattle.http_reader.proofs.HeadsRead.{IsReadSoFar}
use Rattle.http_reader.proofs.body.read_body.Given as goal

abbrev pub invariant-loop-piece : goal.invariant-loop-piece
invariant-loop-piece g l = record {
  so_far : IsReadSoFar l.fn.front l.body.items (g.S.Source.left l.fn.source) (g.S.Source.left l.source);
  fits : length l.body.items ≤ l.size;
  telling : is_some (g.S.Source.left l.source) ≡ is_some (g.S.Source.left l.fn.source);
  steady : g.S.Source.faults l.source ≡ g.S.Source.faults l.fn.source;
}

abbrev pub decreases-loop-piece : goal.decreases-loop-piece
decreases-loop-piece g l = l.size - length l.body.items
