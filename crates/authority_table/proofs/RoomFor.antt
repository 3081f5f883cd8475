-- Memory for so many rules.
use Rattle.std.proofs.Common.{ℕ, ◌≤◌, arith}
use Rattle.std.proofs.lemmas.Bool.Decides.{nat_tests}
use Rattle.policy_model.specs.declared.limits.TheConstants.{MOST_RULES}
use Rattle.held_rules.specs.Rooms.{room_for}

-- it is enough
pub room_holds : (n : ℕ) → n ≤ MOST_RULES → n ≤ room_for n
room_holds n h = grind (arith, nat_tests, h)

-- and for more rules no less
pub room_grows : (m n : ℕ) → m ≤ n → room_for m ≤ room_for n
room_grows m n h = grind (arith, nat_tests, h)
