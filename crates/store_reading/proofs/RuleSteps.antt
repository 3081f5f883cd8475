-- The rules so far, and the row behind theirs.
use Rattle.std.proofs.Common.{◌≡◌, ℕ, ◌+◌, ◌-◌, ◌<◌, ◌≤◌, List, [], ◌∷◌, ◌++◌, length, get_or, take, refl, sym, ap, ◌∙◌, subst, arith, inl, inr}
use Rattle.std.specs.Prelude.{All, map, ℤ, ◌<ℤ◌, ◌↔◌, Option, Some, None, Result, Ok, Err, IfOk}
use Rattle.std.proofs.lemmas.Int.{ints}
use Rattle.std.proofs.lemmas.Bool.{cases_order}
use Rattle.std.proofs.lemmas.List.{map-append, length-map, get_or-map}
use Rattle.std.proofs.lemmas.List.Elements.{All-push}
use Rattle.policy_model.specs.Rules.{Row}
use Rattle.req_grammar.specs.Readings.{IsRequirementText}
use Rattle.rule_values.specs.declared.rule.Rule.{Rule}
use Rattle.rule_values.specs.Rule.{row_of, rows_of}
use Rattle.store_model.specs.Raw.{RawReceipt, RawRule}
use Rattle.store_model.specs.Accepted.{AcceptsRules}
use Rattle.store_model.specs.Stored.{raw_rule}
use Rattle.raw_tables.specs.declared.rule.RawRule as code
use Rattle.raw_tables.specs.Raw.{plain_rule, plain_rules}
use Rattle.store_reading.specs.declared.fault.StoreRow.TheVariants as places
use Rattle.store_reading.specs.declared.fault.StoreFault.TheVariants.{BadStore}
use Rattle.store_reading.specs.Fault.{IsBadRule}
use Rattle.store_reading.specs.Readings.{Reads, AreRising, IsRuleOf, HoldsRules}
use Rattle.store_reading.proofs.NextRule.{IsBelow}
use Rattle.store_reading.proofs.FirstBad.{front_more, first_bad}

-- the tree is that of the text
abbrev HasTree : Row → Type 0
HasTree r = ∥ IsRequirementText r.text r.tree ∥₁

module _ (rs : List RawReceipt) (rows : List code.RawRule) (at : ℕ) (row : code.RawRule) (lt : at < length rows) (is : get_or rows at row ≡ row) (rules : List Rule) (h : HoldsRules rs (plain_rules (take at rows)) rules) where
  -- the rows with the next one are accepted
  pub one_further : (rule : Rule) → AcceptsRules rs (plain_rules (take at rows) ++ plain_rule row ∷ []) → IsRuleOf (plain_rule row) rule → HoldsRules rs (plain_rules (take (at + 1) rows)) (rules ++ rule ∷ [])
  one_further rule fits next =
      let front = front_more plain_rule rows at row lt is in
      record {
        accepted = subst (AcceptsRules rs) (sym front) fits;
        stored =
            ap (map raw_rule) (map-append row_of rules (rule ∷ []))
            ∙ map-append raw_rule (rows_of rules) (row_of rule ∷ [])
            ∙ ap (λ r. map raw_rule (rows_of rules) ++ r ∷ []) next.stored
            ∙ ap (λ l. l ++ plain_rule row ∷ []) h.stored
            ∙ sym front;
        trees = subst (All HasTree) (sym (map-append row_of rules (rule ∷ []))) (All-push HasTree (rows_of rules) (row_of rule) h.trees next.tree);
      }

  -- or the next one is the first that isn't
  pub is_bad : (AcceptsRules rs (plain_rules (take at rows) ++ plain_rule row ∷ []) → ⊥) → IsBadRule rs (plain_rules rows) (BadStore (places.Rule row.id))
  is_bad bad = (plain_rule row, refl, first_bad plain_rule rows at row lt is (AcceptsRules rs) h.accepted bad)

-- a reading of one row as that of a longer list
pub widen : {X E A B : Type 0} (Is : X → Type 0) → (A → B) → (B → A) → (result : Result (Option X) E) → IfOk result (Reads A Is) → IfOk result (Reads B Is)
widen Is f g (Ok None) h = λ b. h (g b)
widen Is f g (Ok (Some x)) h = (f h.0, h.1)
widen Is f g (Err e) h = tt

-- rising numbers are all below a number where the last one is
module _ (rules : List RawRule) (id : ℤ) where
  between : (a b : ℤ) → a <ℤ b → b <ℤ id → a <ℤ id
  between a b h k = grind (arith, ints, h, k)

  -- the last one is the greatest
  pub above_last : (last : RawRule) → 1 ≤ length rules → ((d : RawRule) → get_or rules (length rules - 1) d ≡ last) → AreRising rules → (last.id <ℤ id) ↔ All (IsBelow id) rules
  above_last last some is rising = (
    (λ lt k d inside. elim (cases_order k (length rules - 1)) as (λ _. IsBelow id (get_or rules k d)) [
      | inl same ↦ subst (λ n. IsBelow id (get_or rules n d)) (sym same) (subst (IsBelow id) (sym (is d)) lt)
      | inr other ↦ elim other as (λ _. IsBelow id (get_or rules k d)) [
        | inl below ↦ between (get_or rules k d).id last.id (subst (λ (b : RawRule). (get_or rules k d).id <ℤ b.id) (is d) (rising k (length rules - 1) d below (omega (arith, some)))) lt
        | inr above ↦ absurd (omega (arith, above, inside, some))
      ]
    ]),
    (λ h. subst (IsBelow id) (is last) (h (length rules - 1) last (omega (arith, some)))),
  )

-- the same of rows of the program
pub above_row : (rows : List code.RawRule) (id : ℤ) (last : code.RawRule) → (0 < length rows) × ((d : code.RawRule) → last ≡ get_or rows (length rows - 1) d) → AreRising (plain_rules rows) → (last.id <ℤ id) ↔ All (IsBelow id) (plain_rules rows)
above_row rows id last item rising =
    let same = length-map rows plain_rule in
    above_last (plain_rules rows) id (plain_rule last) (omega (arith, item.0, same))
    (λ d. ap (λ n. get_or (plain_rules rows) (n - 1) d) same ∙ get_or-map plain_rule rows (length rows - 1) last d (omega (arith, item.0)) ∙ ap plain_rule (sym (item.1 last))) rising
