use Rattle.std.proofs.Common.{◌≡◌, ◌+◌, ◌*◌, ◌++◌, length, drop}
use Rattle.cs_blob.specs.Writing.{body_bytes, index_bytes, total_of}
use Rattle.cs_blob.proofs.writer.push_index.Given as goal

abbrev pub invariant-loop-part : goal.invariant-loop-part
invariant-loop-part l = record {
  index : l.fn.out.items ++ index_bytes (12 + 8 * length l.parts) l.parts ≡ l.out.items ++ index_bytes l.offset (drop l.part-index l.parts);
  place : l.offset + length (body_bytes (drop l.part-index l.parts)) ≡ total_of l.parts;
}
