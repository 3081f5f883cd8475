use Rattle.std.proofs.Common.{sym, ap, ◌∙◌}
use Rattle.std.specs.Prelude.{option_map}
use Rattle.std.specs.List.{slice_get}
use Rattle.std.proofs.lemmas.Option.{slice_get-map}
use Rattle.policy_model.specs.Edits.{kept}
use Rattle.rule_edits.specs.EditKey.{key_bytes}
use Rattle.edit_receipts.specs.Receipts.{receipt_of, receipts_of}
use Rattle.edit_receipts.proofs.Places.{not_kept, kept_there, item_at, found_in}
use Rattle.edit_receipts.proofs.receipts.Receipts.find.Goals as goal

pub returns-in-None : goal.returns-in-None
returns-in-None c =
    let q = key_bytes c.args.key.now in
    sym (not_kept (receipts_of c.self.inside.receipts.items) q (sym (c.self.invariant.1 c.args.key.now) ∙ sym (found_in q c.self.inside.places.entries) ∙ sym c.in-None.ensures.value))
    ∙ ap (λ x. kept (receipts_of x) q) c.self.view_is

pub returns-in-Some : goal.returns-in-Some
returns-in-Some c =
    let q = key_bytes c.args.key.now in
    let rs = c.self.inside.receipts.items in
    let place = c.in-Some.place.now in
    ap (option_map receipt_of) (item_at c.deref.result.now place c.get-in-Some.result c.get-in-Some.ensures.lookup ∙ ap (λ x. slice_get x place) c.deref.ensures.value)
    ∙ sym (slice_get-map receipt_of rs place)
    ∙ kept_there (receipts_of rs) q place (sym (c.self.invariant.1 c.args.key.now) ∙ sym (found_in q c.self.inside.places.entries) ∙ sym c.in-Some.ensures.value)
    ∙ ap (λ x. kept (receipts_of x) q) c.self.view_is
