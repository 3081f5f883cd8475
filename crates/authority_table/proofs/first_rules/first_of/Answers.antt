use Rattle.std.proofs.Common.{rules, refl, subst, sym, IfSome}
use Rattle.std.proofs.lemmas.Bool.{both_ways}
use Rattle.policy_model.specs.Rules.{rank_of, Before}
use Rattle.rule_values.specs.Rule.{row_of}
use Rattle.authority_table.specs.Found.{row_found}
use Rattle.authority_table.proofs.OneFurther.{stays_found}
use Rattle.authority_table.proofs.first_rules.first_of.Goals as goal
use Rattle.authority_table.proofs.first_rules.first_of.Goals.{in_default-via-in-Some+else-not-is_before, in_default-via-in_default}

pub returns-in-Some : goal.returns-in-Some
returns-in-Some c = λ all known rows h. stays_found c.search_goes_on.ensures.later _ _ _ _ _ rows _ (row_of c.in-Some.best.now) _ (search rules) (λ before. search (rules, before)) h

pub returns-then-applies : goal.returns-then-applies
returns-then-applies c = λ all known rows h. c.search_goes_on.ensures.finds _ _ _ _ _ rows _ _ h (record { applies = (c.applies.ensures all known).0 c.if-applies.true; counted = refl }) (
    elim c.in_default.branch [
      | in_default-via-in-Some+else-not-is_before w ↦ subst (λ f. IfSome (row_found f) (λ s. Before (rank_of (row_of c.args.rule.now)) (rank_of s))) (sym w.in-Some.is) (w.is_before.ensures.0 w.if-not-is_before.false)
      | in_default-via-in_default w ↦ subst (λ f. IfSome (row_found f) (λ s. Before (rank_of (row_of c.args.rule.now)) (rank_of s))) (sym w.in_default.is) tt
    ])

pub returns-else-applies : goal.returns-else-applies
returns-else-applies c = λ all known rows h. c.search_goes_on.ensures.passes _ _ _ _ _ rows _ _ h (λ meets. both_ways c.applies.result c.if-applies.false ((c.applies.ensures all known).1 meets.applies))
