use Rattle.std.proofs.Common.{◌≡◌, ◌++◌, drop}
use Rattle.cs_blob.specs.Writing.{body_bytes}
use Rattle.cs_blob.proofs.writer.push_body.Given as goal

abbrev pub invariant-loop-part : goal.invariant-loop-part
invariant-loop-part l = l.fn.out.items ++ body_bytes l.parts ≡ l.out.items ++ body_bytes (drop l.part-index l.parts)
