use Rattle.std.proofs.Common.{◌≡◌, drop}
use Rattle.std.specs.List.{flat_map}
use Rattle.code_directory.specs.Signatures.{first_of, by_hash, directories}
use Rattle.code_directory.proofs.signature.first_in_order.Given as goal

abbrev pub invariant-loop-hash_type : goal.invariant-loop-hash_type
invariant-loop-hash_type l = first_of (flat_map (by_hash (directories l.blob.whole)) (drop l.hash_type-index l.order)) ≡ first_of (flat_map (by_hash (directories l.blob.whole)) l.order)
