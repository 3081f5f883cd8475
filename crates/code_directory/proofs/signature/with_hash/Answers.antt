use Rattle.code_directory.proofs.UsedLemmas.{fine_at, found_kind, passed_kind}
use Rattle.code_directory.proofs.signature.with_hash.Goals as goal

pub of_hash-requires-clause-fine : goal.of_hash-requires-clause-fine
of_hash-requires-clause-fine c = (fine_at c.args.blob.now.whole c.args.kinds.now c.loop-kind.kind-index c.loop-kind-test.true c.loop-kind.invariant.fine).0

pub returns-in-Some : goal.returns-in-Some
returns-in-Some c = found_kind c.args.blob.now.whole c.args.kinds.now c.args.hash_type c.loop-kind.kind-index c.in-Some.directory c.loop-kind-test.true c.loop-kind.invariant.first c.in-Some.ensures

pub loop-kind-preserved : goal.loop-kind-preserved
loop-kind-preserved c = record {
  fine = (fine_at c.args.blob.now.whole c.args.kinds.now c.loop-kind.kind-index c.loop-kind-test.true c.loop-kind.invariant.fine).1;
  first = passed_kind c.args.blob.now.whole c.args.kinds.now c.args.hash_type c.loop-kind.kind-index c.loop-kind-test.true c.loop-kind.invariant.first c.in-None.ensures;
}
