use Rattle.req_primary.proofs.Keys.{bad_policy, policy_means}
use Rattle.req_primary.proofs.meaning.policy_of.Goals as goal

pub returns-in-None : goal.returns-in-None
returns-in-None c = bad_policy c.args.key.now c.behind.result.now c.requires c.behind.ensures (rw c.in-None.is at c.in_ok-oid.ensures)

pub returns-in-Some : goal.returns-in-Some
returns-in-Some c = policy_means c.args.key.now c.behind.result.now _ c.requires c.behind.ensures (rw c.in-Some.is at c.in_ok-oid.ensures)
