-- Numbers of rules that rise.
use Rattle.std.proofs.Common.{◌≡◌, inl, inr, ℕ, suc, ◌<◌, ◌≤◌, length, get_or, List, [], ◌∷◌, ◌++◌, sym, subst, arith}
use Rattle.std.proofs.Math.Nat.{eq-or-lt_of_le}
use Rattle.std.proofs.lemmas.List.{get_or_default}
use Rattle.std.proofs.lemmas.List.Quantifiers.{all_pairs_push}
use Rattle.rule_values.specs.declared.rule.Rule.{Rule}
use Rattle.held_rules.specs.Spans.{AreRising}

below_last : (k last n : ℕ) → suc last ≡ n → k < n → k ≤ last
below_last k last n e lt = omega (arith, e, lt)

last_least : (rules : List Rule) (x : Rule) (last : ℕ) (d : Rule) → AreRising rules → suc last ≡ length rules → (get_or rules last d).id < x.id → (k : ℕ) (e : Rule) → k < length rules → (get_or rules k e).id < x.id
last_least rules x last d up n less k e lt = elim (eq-or-lt_of_le (below_last k last (length rules) n lt)) [
  | inl same ↦ subst (λ j. (get_or rules j e).id < x.id) (sym same) (subst (λ r. r.id < x.id) (get_or_default rules last d e (omega (arith, n))) less)
  | inr before ↦ let rises : (get_or rules k e).id < (get_or rules last e).id = up k last e before (omega (arith, n)) in
      let top : (get_or rules last e).id < x.id = subst (λ r. r.id < x.id) (get_or_default rules last d e (omega (arith, n))) less in
      omega (arith, rises, top)
]

-- one more whose number is above the last
pub rising_more : (rules : List Rule) (x : Rule) (last : ℕ) (d : Rule) → AreRising rules → suc last ≡ length rules → (get_or rules last d).id < x.id → AreRising (rules ++ x ∷ [])
rising_more rules x last d up n less = all_pairs_push (λ (a b : Rule). a.id < b.id) rules x up (λ k e lt. last_least rules x last d up n less k e lt)

pub rising_one : (rules : List Rule) (x : Rule) → length rules ≡ 0 → AreRising (rules ++ x ∷ [])
rising_one rules x e = all_pairs_push (λ (a b : Rule). a.id < b.id) rules x (λ i j d lt in'. absurd (omega (arith, in', e))) (λ k d lt. absurd (omega (arith, lt, e)))
