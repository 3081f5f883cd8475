use Rattle.std.proofs.Common.{◌≡◌, ◌≤◌, ◌++◌, [], ◌∷◌, length, sym, ◌∙◌, subst, arith}
use Rattle.std.proofs.lemmas.Grind.{common_steps}
use Rattle.policy_model.specs.declared.limits.TheConstants.{MOST_RECEIPTS}
use Rattle.edit_receipts.specs.Receipts.{HasPlaces}
use Rattle.edit_receipts.proofs.Places.{has_less}
use Rattle.edit_receipts.proofs.receipts.Receipts.pop.Goals as goal

pub invariant_of-self-in-Some : goal.invariant_of-self-in-Some
invariant_of-self-in-Some c =
    let rest = c.pop.new.self.items in
    let last = c.in-Some.receipt in
    let split : c.self.inside.receipts.items ≡ rest ++ last ∷ [] = c.in-Some.ensures.items in
    let small : length rest ≤ MOST_RECEIPTS = grind (arith, common_steps, split, c.self.invariant.0) in (
      small,
      has_less c.self.inside.places c.remove-place.new.self rest last (subst (HasPlaces c.self.inside.places) split c.self.invariant.1) (c.requires.alone rest last (sym c.self.view_is ∙ split)) c.remove-place.ensures.updates.0,
    )
