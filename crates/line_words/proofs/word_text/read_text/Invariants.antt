use Rattle.std.proofs.Common.{◌≡◌, ◌≤◌, length, Some}
use Rattle.line_model.specs.WordTexts.{joined, bytes_in}
use Rattle.line_words.proofs.word_text.read_text.Given as goal

abbrev pub invariant-loop-left : goal.invariant-loop-left
invariant-loop-left l = record {
  read : joined (Some l.bytes.items) (bytes_in l.left) ≡ bytes_in l.word;
  few : length l.bytes.items ≤ l.most;
}

abbrev pub decreases-loop-left : goal.decreases-loop-left
decreases-loop-left l = length l.left
