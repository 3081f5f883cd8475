use Rattle.std.proofs.Common.{◌≡◌, ◌≤◌, ◌++◌, [], ◌∷◌, length, sym, subst, arith, rules, None}
use Rattle.std.proofs.lemmas.Grind.{common_steps}
use Rattle.policy_model.specs.declared.limits.TheConstants.{MOST_RECEIPTS}
use Rattle.policy_model.specs.Edits.{kept}
use Rattle.rule_edits.specs.EditKey.{key_bytes}
use Rattle.edit_receipts.specs.Receipts.{receipts_of, HasPlaces}
use Rattle.edit_receipts.proofs.Places.{has_more}
use Rattle.edit_receipts.proofs.receipts.Receipts.push.Goals as goal

pub invariant_of-self-2 : goal.invariant_of-self-2
invariant_of-self-2 c =
    let rs = c.self.inside.receipts.items in
    let items : c.push.new.self.items ≡ rs ++ c.args.receipt ∷ [] = search rules in
    let small : length c.push.new.self.items ≤ MOST_RECEIPTS = grind (arith, common_steps, items) in
    let unkept = subst (λ x. kept (receipts_of x) (key_bytes c.args.receipt.key) ≡ None) (sym c.self.view_is) c.requires.new in
    let place : c.len-place.result ≡ length rs = search rules in (
      small,
      subst (HasPlaces c.insert.new.self) (sym items)
          (has_more c.self.inside.places c.insert.new.self rs c.args.receipt c.copied.result c.len-place.result c.self.invariant.1 unkept place c.copied.ensures c.in_ok-insert.ensures.updates.0),
    )
