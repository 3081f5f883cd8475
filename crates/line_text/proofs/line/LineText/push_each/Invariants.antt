use Rattle.std.proofs.Common.{◌≡◌, ◌+◌, ◌*◌, ◌≤◌, ◌++◌, length, take}
use Rattle.std.specs.List.{flat_map}
use Rattle.line_text.specs.LineText.{line_bytes}
use Rattle.line_text.specs.WordText.{byte_text}
use Rattle.line_text.proofs.line.LineText.push_each.Given as goal

abbrev pub invariant-loop-byte : goal.invariant-loop-byte
invariant-loop-byte l = record {
  text : line_bytes l.self ≡ line_bytes l.fn.self ++ flat_map byte_text (take l.byte-index l.word);
  length : length (line_bytes l.self) ≤ length (line_bytes l.fn.self) + 3 * l.byte-index;
}
