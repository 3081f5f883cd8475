use Rattle.std.proofs.Common.{◌≡◌, false, Some, drop}
use Rattle.req_dumper.specs.Runs.{runs_on}
use Rattle.req_dumper.proofs.word.are_runs.Given as goal

abbrev pub invariant-loop-byte : goal.invariant-loop-byte
invariant-loop-byte l = runs_on (Some l.begun) (drop l.byte-index l.bytes) ≡ runs_on (Some false) l.bytes
