use Rattle.std.proofs.Common.{arith, refl}
use Rattle.std.proofs.lemmas.Bool.Decides.{nat_tests}
use Rattle.authority_table.proofs.OneFurther.{may_govern, may_be_latent}
use Rattle.authority_table.proofs.first_rules.FirstRules.with.Goals as goal

pub returns-then-is_enabled : goal.returns-then-is_enabled
returns-then-is_enabled c = λ all known rows found. may_govern c.search_goes_on.ensures.passes _ _ all _ rows _ _ _ found (grind (arith, nat_tests, c.is_enabled.ensures, c.if-is_enabled.true)) refl (c.first_of.ensures all known rows)

pub returns-else-is_enabled : goal.returns-else-is_enabled
returns-else-is_enabled c = λ all known rows found. may_be_latent c.search_goes_on.ensures.passes _ _ all _ rows _ _ _ found (grind (arith, nat_tests, c.is_enabled.ensures, c.if-is_enabled.false)) refl (c.first_of-else-is_enabled.ensures all known rows)
