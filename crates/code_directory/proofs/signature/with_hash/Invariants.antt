use Rattle.std.proofs.Common.{◌≡◌, drop, None}
use Rattle.code_directory.specs.Signatures.{kinds_fault, first_of, by_hash, directories_of}
use Rattle.code_directory.proofs.signature.with_hash.Given as goal

abbrev pub invariant-loop-kind : goal.invariant-loop-kind
invariant-loop-kind l = record {
  fine : kinds_fault l.blob.whole (drop l.kind-index l.kinds) ≡ None;
  first : first_of (by_hash (directories_of l.blob.whole (drop l.kind-index l.kinds)) l.hash_type) ≡ first_of (by_hash (directories_of l.blob.whole l.kinds) l.hash_type);
}
