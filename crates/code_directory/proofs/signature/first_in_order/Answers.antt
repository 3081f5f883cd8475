use Rattle.code_directory.specs.Signatures.{directories}
use Rattle.code_directory.proofs.UsedLemmas.{found_at, passed_at}
use Rattle.code_directory.proofs.signature.first_in_order.Goals as goal

pub returns-in-Some : goal.returns-in-Some
returns-in-Some c = found_at (directories c.args.blob.now.whole) c.args.order.now c.loop-hash_type.hash_type-index c.in-Some.directory c.loop-hash_type-test.true c.loop-hash_type.invariant c.in-Some.ensures

pub loop-hash_type-preserved : goal.loop-hash_type-preserved
loop-hash_type-preserved c = passed_at (directories c.args.blob.now.whole) c.args.order.now c.loop-hash_type.hash_type-index c.loop-hash_type-test.true c.loop-hash_type.invariant c.in-None.ensures
