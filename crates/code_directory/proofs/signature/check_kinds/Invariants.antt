use Rattle.std.proofs.Common.{◌≡◌, drop}
use Rattle.code_directory.specs.Signatures.{kinds_fault}
use Rattle.code_directory.proofs.signature.check_kinds.Given as goal

abbrev pub invariant-loop-kind : goal.invariant-loop-kind
invariant-loop-kind l = kinds_fault l.blob.whole (drop l.kind-index l.kinds) ≡ kinds_fault l.blob.whole l.kinds
