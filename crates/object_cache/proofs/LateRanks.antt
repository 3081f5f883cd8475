-- One rank of a ring after another.
use Rattle.std.proofs.Common.{◌≡◌, ℕ, zero, suc, ◌-◌, List, ◌∷◌, refl, ap, ◌∙◌, arith, take}
use Rattle.std.specs.Prelude.{Bool, false, ◌||◌}
use Rattle.std.specs.List.{list_any}
use Rattle.policy_model.specs.Rules.{Rank}

pub passed : (p : Rank → Bool) (x : Rank) (xs : List Rank) (n : ℕ) → (n ≡ 0 → ⊥) → p x ≡ false → list_any p (take n (x ∷ xs)) ≡ list_any p (take (n - 1) xs)
passed p x xs zero some miss = absurd (some refl)
passed p x xs (suc n) some miss = let one : n ≡ suc n - 1 = omega arith in ap (λ b. b || list_any p (take n xs)) miss ∙ ap (λ k. list_any p (take k xs)) one
