use Rattle.std.specs.Prelude.{◌≡◌, false}
use Rattle.bench.proofs.transactions.fill.Given as goal

abbrev pub invariant-loop-number : goal.invariant-loop-number
invariant-loop-number l = l.connection.in_transaction ≡ false
