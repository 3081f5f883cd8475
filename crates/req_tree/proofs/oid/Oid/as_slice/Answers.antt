use Rattle.std.proofs.Common.{ℕ, List, ◌≡◌, true, subst}
use Rattle.req_tree.specs.OidReading.{is_oid}
use Rattle.req_tree.proofs.OidTest.{is_oid-complete}
use Rattle.req_tree.proofs.oid.Oid.as_slice.Goals as goal

pub returns-clause-read : goal.returns-clause-read
returns-clause-read c = subst (λ (bytes : List ℕ). is_oid bytes ≡ true) c.self.view_is (is_oid-complete _ c.self.invariant)
