use Rattle.std.proofs.Common.{◌≡◌, ◌-◌, ◌≤◌, length, is_some}
use Rattle.std.specs.Io.KnownBytes.{Consumes}
use Rattle.gk_io.proofs.whole_file.read_whole.Given as goal

abbrev pub invariant-loop-count : goal.invariant-loop-count
invariant-loop-count g l = record {
  taken : Consumes (g.S.Source.left l.fn.source) (g.S.Source.left l.source) l.into.items;
  fits : length l.into.items ≤ l.limit;
  telling : is_some (g.S.Source.left l.source) ≡ is_some (g.S.Source.left l.fn.source);
  steady : g.S.Source.faults l.source ≡ g.S.Source.faults l.fn.source;
}

abbrev pub decreases-loop-count : goal.decreases-loop-count
decreases-loop-count g l = l.limit - length l.into.items
