use Rattle.std.proofs.Common.{ap, sym, ◌∙◌, List, ℕ, [], ◌∷◌, ◌++◌}
use Rattle.std.specs.Option.{option_copied_mut}
use Rattle.std.proofs.lemmas.Result.{on_ok_weaker}
use Rattle.req_tree.specs.Facts.{texts}
use Rattle.fact_values.specs.Keyed.{value_of, values_of, list_value, with_value, more_of}
use Rattle.fact_values.proofs.Kept.{item_put, item_begun}
use Rattle.fact_values.proofs.values.Values.put_item.Goals as goal

pub returns-in-Some : goal.returns-in-Some
returns-in-Some c =
    let after = c.get_mut.follows.holds c.add_item.new.value in
    on_ok_weaker c.add_item.result (λ e. item_put (λ k. k.items) c.args.self.now.map.entries (c.get_mut.follows.lender c.add_item.new.value).entries c.args.key.now c.args.text.now c.add_item.new.value c.in-Some.value.now after.0
    (sym c.get_mut.ensures.value ∙ ap option_copied_mut c.in-Some.is)
    (e ∙ ap (λ t. more_of t (value_of c.in-Some.value.now)) c.in_ok-text.ensures)) c.add_item.ensures

pub returns-in_ok-push-in-None : goal.returns-in_ok-push-in-None
returns-in_ok-push-in-None c =
    let pushed = c.in_ok-push-in-None.ensures.ok ∙ ap (λ (l : List (List ℕ)). l ++ c.in_ok-text.text ∷ []) c.new-texts.ensures ∙ ap (λ (t : List ℕ). t ∷ []) c.in_ok-text.ensures in
    on_ok_weaker c.put.result (λ e. item_begun (λ k. k.items) c.args.self.now.map.entries (values_of c.put.new.self) c.args.key.now c.args.text.now
    (e ∙ ap (λ l. with_value c.args.key.now (list_value l) (values_of (record { map = c.get_mut.follows.lender-at-none }))) pushed
    ∙ ap (λ m. with_value c.args.key.now (texts c.args.text.now []) (values_of (record { map = m }))) c.get_mut.follows.holds-at-none)
    (sym c.in-None.ensures.value)) c.put.ensures
