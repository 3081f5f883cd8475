-- The numbers of a seat, and of the two parts of a split.
use Rattle.std.proofs.Common.{◌≡◌, ◌≢◌, ℕ, ◌+◌, ◌*◌, ◌<◌, [], refl, ap, sym, ◌∙◌, ⊎_elim, inl, inr, arith, mul_assoc, mul_comm, add-mul, one-mul, add_assoc, add_left_cancel, le_antisymm, le_of_eq, le_of_mul-le-mul_right}
use mathlib.Core.Option.{some, some-ne-none}
use lib.ListN.{get_elem?}
use Rattle.turn_lock.specs.declared.logged.Kept.{Kept}
use Rattle.turn_lock.specs.declared.logged.View.{View}
use Rattle.turn_lock.specs.Views.{number_at, kept_at, Has, left_of, right_of}
use Rattle.turn_lock.specs.Rule.{Apart}

mul_right_cancel : {a b n : ℕ} → 0 < n → a * n ≡ b * n → a ≡ b
mul_right_cancel {a} {b} {n} pos e = le_antisymm (le_of_mul-le-mul_right (le_of_eq e) pos) (le_of_mul-le-mul_right (le_of_eq (sym e)) pos)

module _ {O E : Type 0} where
  -- the numbers of the first part of a split
  pub left_at : (v : View O E) (m : ℕ) → number_at (left_of v) m ≡ number_at v (2 * m)
  left_at v m = ap (λ z. v.number + z) (sym (mul_assoc m 2 v.step) ∙ ap (λ z. z * v.step) (mul_comm m 2))

  -- and of the second
  pub right_at : (v : View O E) (m : ℕ) → number_at (right_of v) m ≡ number_at v (1 + 2 * m)
  right_at v m = let e : m * (2 * v.step) ≡ 2 * m * v.step = sym (mul_assoc m 2 v.step) ∙ ap (λ z. z * v.step) (mul_comm m 2) in
      let f : (1 + 2 * m) * v.step ≡ v.step + 2 * m * v.step = add-mul 1 (2 * m) v.step ∙ ap (λ z. z + 2 * m * v.step) (one-mul v.step) in
      ap (λ z. v.number + v.step + z) e ∙ (add_assoc v.number v.step (2 * m * v.step) ∙ ap (λ z. v.number + z) (sym f))

  number_once : (v : View O E) (a b : ℕ) → 0 < v.step → number_at v a ≡ number_at v b → a ≡ b
  number_once v a b some_step e = mul_right_cancel some_step (add_left_cancel v.number e)

  -- a seat has its own number
  pub own_number : (v : View O E) → Has v v.number
  own_number v = inl (0, omega arith)

  -- and those that a join has kept
  pub kept_number : (v : View O E) (k : ℕ) (x : Kept E) → get_elem? v.kept k ≡ some x → (a : ℕ) → Has v (kept_at x a)
  kept_number v k x e a = inr (k, x, e, (a, refl))

  left_has : (v : View O E) (n : ℕ) → Has (left_of v) n → Has v n
  left_has v n h = ⊎_elim (λ (t : (a : ℕ) × (n ≡ number_at (left_of v) a)). inl (2 * t.0, t.1 ∙ left_at v t.0))
      (λ (t : (k : ℕ) × (x : Kept E) × (get_elem? v.kept k ≡ some x) × ((a : ℕ) × (n ≡ kept_at x a))). inr t) h

  -- each number of the second part is one that was left
  right_has : (v : View O E) (n : ℕ) → Has (right_of v) n → (a : ℕ) × (n ≡ number_at v (1 + 2 * a))
  right_has v n h = ⊎_elim (λ (t : (a : ℕ) × (n ≡ number_at (right_of v) a)). (t.0, t.1 ∙ right_at v t.0))
      (λ (t : (k : ℕ) × (x : Kept E) × (get_elem? [] k ≡ some x) × ((a : ℕ) × (n ≡ kept_at x a))). absurd (some-ne-none t.1 (sym t.2))) h

  -- the first part has no number that the seat had not
  pub left_apart : (v u : View O E) → Apart v u → Apart (left_of v) u
  left_apart v u p n a b = p n (left_has v n a) b

  -- nor has the second
  pub right_apart : (v u : View O E) → Apart u v → Apart u (right_of v)
  right_apart v u p n a b = p n a (inl (let t = right_has v n b in (1 + 2 * t.0, t.1)))

  -- and they have none in common
  pub halves_apart : (v : View O E) → 0 < v.step → ((k : ℕ) (x : Kept E) → get_elem? v.kept k ≡ some x → (a b : ℕ) → kept_at x a ≢ number_at v b) → Apart (left_of v) (right_of v)
  halves_apart v some_step clear n a b = let r = right_has v n b in
      ⊎_elim (λ (t : (k : ℕ) × (n ≡ number_at (left_of v) k)). let q : 2 * t.0 ≡ 1 + 2 * r.0 = number_once v (2 * t.0) (1 + 2 * r.0) some_step (sym (left_at v t.0) ∙ (sym t.1 ∙ r.1)) in omega arith)
      (λ (t : (k : ℕ) × (x : Kept E) × (get_elem? v.kept k ≡ some x) × ((c : ℕ) × (n ≡ kept_at x c))). clear t.0 t.1 t.2 t.3.0 (1 + 2 * r.0) (sym t.3.1 ∙ r.1)) a
