-- Decimal places, one at a time.
use Rattle.std.proofs.Common.{◌≡◌, ℕ, zero, suc, ◌+◌, ◌-◌, ◌<◌, ◌/◌, ◌%◌, ◌^◌, [], ◌∷◌, refl, arith}
use Rattle.std.proofs.lemmas.Bool.Decides.{nat_tests}
use Rattle.std.proofs.lemmas.Grind.{common_steps}
use Rattle.policy_model.specs.Texts.{places}

pub no_places : (count part : ℕ) → count ≡ 0 → places count part ≡ []
unfolding places
no_places zero part e = refl
no_places (suc n) part e = absurd (omega (arith, e))

pub nothing_left : (count part : ℕ) → part ≡ 0 → places count part ≡ []
unfolding places
nothing_left zero part e = refl
nothing_left (suc n) part e = grind (arith, nat_tests, e)

pub one_place : (count part : ℕ) → 0 < count → 0 < part → places count part ≡ (48 + part / 10 ^ (count - 1)) ∷ places (count - 1) (part % 10 ^ (count - 1))
unfolding places
one_place zero part lt some = absurd (omega (arith, lt))
one_place (suc n) part lt some = grind (arith, nat_tests, common_steps, some)
